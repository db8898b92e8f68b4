-- The marked contracts as a set.
use Rattle.std.proofs.Common.{◌≡◌, ◌∙◌, ℕ, ◌<◌, List, Bool, true, false, ◌&&◌, length, get_or, set, ltb, sym, ap, ⊎_elim, arith}
use Rattle.std.proofs.lemmas.Bool.{cases_eq, lt-ltb}
use Rattle.std.proofs.lemmas.List.{get_or-set_same, get_or-set_other, length-set}
use Rattle.rm_sets.specs.Sets.{has, IsSetBelow, with_one, without}
use Rattle.rm_sets.proofs.Sets.{has-all_below, IsSetBelow-all_below, same_sets, IsSet-with_one, IsSet-without}
use Rattle.rm_sets.proofs.Members.{IsIn-with_one_new, not_in_without}
use Rattle.rm_market.specs.Best.{swapped}
use Rattle.rm_valuation_laws.proofs.Moves.{with_other, without_other}
use Rattle.rm_exchange.specs.Holding.{held_of}

pub held_set : (n : ℕ) (marks : List Bool) → IsSetBelow n (held_of n marks)
held_set n marks = IsSetBelow-all_below n (λ x. get_or marks x false)

pub held_mark : (n : ℕ) (marks : List Bool) (x : ℕ) → x < n → has x (held_of n marks) ≡ get_or marks x false
held_mark n marks x lt = has-all_below n (λ y. get_or marks y false) x ∙ ap (λ t. t && get_or marks x false) (lt-ltb x n lt)

pub held_other : (n : ℕ) (marks : List Bool) (x y : ℕ) (m : Bool) → (y ≡ x → ⊥) → has y (held_of n (set marks x m)) ≡ has y (held_of n marks)
held_other n marks x y m ne =
    has-all_below n (λ z. get_or (set marks x m) z false) y ∙ (ap (λ t. ltb y n && t) (get_or-set_other marks x y m false ne) ∙ sym (has-all_below n (λ z. get_or marks z false) y))

pub held_with : (n : ℕ) (marks : List Bool) (x : ℕ) → length marks ≡ n → x < n → held_of n (set marks x true) ≡ with_one (held_of n marks) x
held_with n marks x l lt =
    same_sets (held_of n (set marks x true)) (with_one (held_of n marks) x) (held_set n (set marks x true)).ascending (IsSet-with_one (held_of n marks) x (held_set n marks).ascending)
    (λ y. ⊎_elim
    (λ e. ap (λ w. has w (held_of n (set marks x true))) e ∙ (held_mark n (set marks x true) x lt ∙ (get_or-set_same marks x true false (omega arith) ∙ (sym (IsIn-with_one_new (held_of n marks) x) ∙ ap (λ w. has w (with_one (held_of n marks) x)) (sym e)))))
    (λ ne. held_other n marks x y true ne ∙ sym (with_other (held_of n marks) x y ne))
    (cases_eq y x))

pub held_without : (n : ℕ) (marks : List Bool) (x : ℕ) → length marks ≡ n → x < n → held_of n (set marks x false) ≡ without (held_of n marks) x
held_without n marks x l lt =
    same_sets (held_of n (set marks x false)) (without (held_of n marks) x) (held_set n (set marks x false)).ascending (IsSet-without (held_of n marks) x (held_set n marks).ascending)
    (λ y. ⊎_elim
    (λ e. ap (λ w. has w (held_of n (set marks x false))) e ∙ (held_mark n (set marks x false) x lt ∙ (get_or-set_same marks x false false (omega arith) ∙ (sym (not_in_without (held_of n marks) x) ∙ ap (λ w. has w (without (held_of n marks) x)) (sym e)))))
    (λ ne. held_other n marks x y false ne ∙ sym (without_other (held_of n marks) x y ne))
    (cases_eq y x))

-- one contract in the place of another
pub held_swapped : (n : ℕ) (marks : List Bool) (x z : ℕ) → length marks ≡ n → x < n → z < n → held_of n (set (set marks z false) x true) ≡ swapped (held_of n marks) x z
held_swapped n marks x z l lx lz = held_with n (set marks z false) x (length-set marks z false ∙ l) lx ∙ ap (λ S. with_one S x) (held_without n marks z l lz)
