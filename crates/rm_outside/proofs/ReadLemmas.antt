-- A reader's bytes, of which one more was asked for than are wanted.
use Rattle.std.proofs.Common.{◌≡◌, ◌<◌, ◌≤◌, ◌∙◌, ℕ, List, length, take, Some, None, Ok, Err, Option, Result, option_map, refl, sym, ap, arith, IfSome, IfOk, OnOk, IfErr, IsOkAnd, IsErrAnd}
use Rattle.std.proofs.lemmas.List.{length-take, take_all}
use Rattle.std.proofs.lemmas.Option.{none-some, same_Some}
use Rattle.rm_outside.specs.Outside.{Tells}
use Rattle.rm_outside.specs.declared.Fetched.{Fetched}
use Rattle.rm_outside.specs.declared.FetchFault.{FetchFault}
use Rattle.rm_outside.specs.declared.Fetched.TheVariants.{Bytes, Absent, Long}

-- what is told of the front is told of the whole, if no more than the limit came only where it is the whole
front_tells : (bytes : List ℕ) (most limit : ℕ) (items : List ℕ) (answer : Fetched) → (length items ≤ limit → length items < most) → items ≡ take most bytes
    → Tells (Some items) limit answer → Tells (Some bytes) limit answer
front_tells bytes most limit items Absent room read told = absurd (none-some items (sym told))
front_tells bytes most limit items Long room read (xs, is, above) =
    (bytes, refl, omega (arith, above, ap length (same_Some _ _ is), ap length read, length-take most bytes))
front_tells bytes most limit items (Bytes v) room read (is, within) =
    let same = same_Some _ _ is in
    let few : length items < most = room (omega (arith, ap length same, within)) in
    let short : length bytes ≤ most = omega (arith, few, ap length read, length-take most bytes) in
    (ap Some (sym (take_all most bytes short) ∙ sym read ∙ same), within)

pub answers_whole : {E : Type 0} (told : Option (List ℕ)) (most limit : ℕ) (items : List ℕ) (read : Result ℕ E) (answer : Result Fetched FetchFault) (P : E → FetchFault → Type 0)
    → (length items ≤ limit → length items < most) → OnOk read (IfSome (option_map (take most) told) (λ bytes. items ≡ bytes))
    → OnOk read (IsOkAnd answer (Tells (Some items) limit)) → IfErr read (λ e. IsErrAnd answer (P e)) → IfSome told (λ bytes. IfOk answer (Tells (Some bytes) limit))
answers_whole None most limit items read answer P room gave ok fault = tt
answers_whole (Some bytes) most limit items (Ok n) (Ok answer) P room gave ok fault = front_tells bytes most limit items answer room gave ok
answers_whole (Some bytes) most limit items (Ok n) (Err e) P room gave ok fault = tt
answers_whole (Some bytes) most limit items (Err e) (Ok answer) P room gave ok fault = absurd fault
answers_whole (Some bytes) most limit items (Err e) (Err f) P room gave ok fault = tt
