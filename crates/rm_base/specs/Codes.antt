-- A refusal by its numbers; the constants of `codes` name them.
use Rattle.std.specs.Prelude.{ℕ}
use Rattle.rm_base.specs.declared.Refusal.{Refusal}

-- a refusal by its code, its file and two numbers
abbrev pub refuse : ℕ → ℕ → ℕ → ℕ → Refusal
refuse code file a b = record { code = code; file = file; a = a; b = b }
