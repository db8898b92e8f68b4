-- What a proof unfolds to compute this crate's definitions on literals.
use Rattle.std.specs.Prelude.{⊤}
use Rattle.std.specs.Str.{is_utf8, chars}
use Rattle.toml.proofs.OnLiterals.{toml_on_literals}
use Rattle.rm_market.proofs.OnLiterals.{market_on_literals}
use Rattle.rm_base.specs.Checks.{checks_from}
use Rattle.rm_policy.specs.Values.{document_of}

unfoldable pub policy_on_literals : ⊤
unfolding is_utf8 chars toml_on_literals market_on_literals checks_from document_of
policy_on_literals = tt
