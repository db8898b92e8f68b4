use Rattle.rm_valuation_laws.proofs.BestOf.{board_best}
use Rattle.rm_greedy.proofs.SameHospital.{leaves_ranked}
use Rattle.rm_greedy.proofs.Greedy.new.Goals as goal

pub returns-clause-best : goal.returns-clause-best
returns-clause-best c = λ X x. board_best c.requires.0 c.args.board.now X c.requires.1 x

pub invariant_of-result-clause-ranked : goal.invariant_of-result-clause-ranked
invariant_of-result-clause-ranked c = leaves_ranked c.requires.0 c.args.board.now c.requires.1
