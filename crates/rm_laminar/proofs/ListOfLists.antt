-- A list of lists, seen through its vectors.
use Rattle.std.proofs.Common.{◌≡◌, ◌<◌, ◌∙◌, ℕ, zero, suc, List, [], ◌∷◌, length, get_or, set, Vec, refl, ap, sym}
use Rattle.std.specs.declared.alloc.Global.{Global}
use Rattle.std.proofs.lemmas.List.{get_or-map, length-map}
use Rattle.rm_laminar.specs.Chains.{chain_lists}

pub list-at : (ls : List (Vec ℕ Global)) (i : ℕ) (v : Vec ℕ Global) → i < length ls → v ≡ get_or ls i v → get_or (chain_lists ls) i [] ≡ v.items
list-at ls i v h at = get_or-map (λ l. l.items) ls i v [] h ∙ ap (λ (l : Vec ℕ Global). l.items) (sym at)

pub lists-set : (ls : List (Vec ℕ Global)) (i : ℕ) (v : Vec ℕ Global) → chain_lists (set ls i v) ≡ set (chain_lists ls) i v.items
lists-set [] i v = refl
lists-set (l ∷ ls) zero v = refl
lists-set (l ∷ ls) (suc i) v = ap (λ (ks : List (List ℕ)). l.items ∷ ks) (lists-set ls i v)

pub lists-length : (ls : List (Vec ℕ Global)) → length (chain_lists ls) ≡ length ls
lists-length ls = rw length-map refl
