use Rattle.std.proofs.Common.{◌≡◌, ◌∙◌, List, ℕ, subst, sym}
use Rattle.std.proofs.lemmas.Result.{IfOk-weaker}
use Rattle.rm_market.specs.Market.{listed_contracts, replaced, wishes_of}
use Rattle.rm_case.specs.Case.{market}
use Rattle.rm_case.specs.Solving.{AreListed}
use Rattle.rm_case.proofs.ReplacedLists.{distinct-own, doctor-low, listed-is, replaced-own}
use Rattle.rm_case.proofs.case.Case.listed_with.Goals as goal

pub with-requires-clause-i : goal.with-requires-clause-i
with-requires-clause-i c = rw c.listed.ensures.listed (doctor-low c.args.self.now c.listed.ensures.case c.args.d c.requires.doctor)

pub with-requires-clause-distinct : goal.with-requires-clause-distinct
with-requires-clause-distinct c =
    let own : c.deref.result.now ≡ listed_contracts (market c.args.self.now).board.ranks c.args.d c.args.hospitals.now =
    c.deref.ensures.value ∙ rw c.board.ensures.board at c.in_ok-own.ensures in
    rw own (distinct-own c.args.self.now c.listed.ensures.case c.args.d c.args.hospitals.now c.requires.list)

pub returns-clause-listed : goal.returns-clause-listed
returns-clause-listed c =
    let own : c.deref.result.now ≡ listed_contracts (market c.args.self.now).board.ranks c.args.d c.args.hospitals.now =
    c.deref.ensures.value ∙ rw c.board.ensures.board at c.in_ok-own.ensures in
    IfOk-weaker c.with.result _ _
    (λ after is. listed-is (market c.args.self.now) c.args.d c.args.hospitals.now c.deref.result.now c.listed.result.now after c.listed.ensures.listed own is)
    c.with.ensures

pub returns-clause-own : goal.returns-clause-own
returns-clause-own c =
    let own : c.deref.result.now ≡ listed_contracts (market c.args.self.now).board.ranks c.args.d c.args.hospitals.now =
    c.deref.ensures.value ∙ rw c.board.ensures.board at c.in_ok-own.ensures in
    IfOk-weaker c.with.result _ _
    (λ after is.
    let same : after ≡ (wishes_of (replaced (market c.args.self.now) c.args.d c.args.hospitals.now)).listed =
    listed-is (market c.args.self.now) c.args.d c.args.hospitals.now c.deref.result.now c.listed.result.now after c.listed.ensures.listed own is in
    subst (λ (L : List (List ℕ)). AreListed c.args.self.now L) (sym same) (replaced-own c.args.self.now c.listed.ensures.case c.args.d c.args.hospitals.now c.requires.list))
    c.with.ensures
