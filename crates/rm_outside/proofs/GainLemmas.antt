-- A text that is written piece after piece.
use Rattle.std.proofs.Common.{◌+◌, ◌≤◌, ℕ, length, take, drop, Option, sym, subst}
use Rattle.std.proofs.Math.Seq.{take-add}
use Rattle.std.proofs.KnownBytes.{Appends-trans, Appends-kept}
use Rattle.std.specs.Io.KnownBytes.{Keeps}
use Rattle.rm_base.specs.Text.{Text}
use Rattle.rm_outside.specs.Outside.{Gains, GainsPart}

-- the next k bytes after the first s
pub gains-more : (a b c : Option Text) (t : Text) (s k : ℕ) → Gains a b (take s t) → Gains b c (take k (drop s t)) → Gains a c (take (s + k) t)
gains-more a b c t s k first next = subst (Gains a c) (sym (take-add s k t)) (Appends-trans a b c (take s t) (take k (drop s t)) first next)

-- a front was written, and nothing after it
pub front-kept : (a b c : Option Text) (t : Text) (s : ℕ) → s ≤ length t → Gains a b (take s t) → Keeps b c → GainsPart a c t
front-kept a b c t s within first kept = (s, within, Appends-kept a b c (take s t) first kept)
