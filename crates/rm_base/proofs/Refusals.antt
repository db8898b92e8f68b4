-- Refusals compute from the names of their numbers.
use Rattle.std.proofs.Common.{◌≡◌, ◌∷◌, [], Some, refl, false, true}
use Rattle.rm_base.specs.Checks.{check, first_of}
use Rattle.rm_base.specs.Codes.{refuse}
use Rattle.rm_base.specs.declared.codes.TheConstants.{FILE_MISSING, FILE_TOO_LONG, RANKS_FILE, TOO_MANY, HOSPITALS_FILE, HOSPITALS_LIMIT, MOST_HOSPITALS, NOT_TOML, POLICY_FILE}

missing_ranks : refuse FILE_MISSING RANKS_FILE 0 0 ≡ refuse 10 3 0 0
missing_ranks = refl

too_many_hospitals : refuse TOO_MANY HOSPITALS_FILE (MOST_HOSPITALS) HOSPITALS_LIMIT ≡ record { code = 23; file = 1; a = 10000; b = 1 }
too_many_hospitals = refl

first_refusal : first_of (check false (refuse FILE_MISSING POLICY_FILE 0 0) ∷ check true (refuse NOT_TOML POLICY_FILE 0 0) ∷ check true (refuse FILE_TOO_LONG POLICY_FILE 0 0) ∷ []) ≡ Some (refuse 30 4 0 0)
first_refusal = refl
