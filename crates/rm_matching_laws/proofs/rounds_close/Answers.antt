use Rattle.rm_matching_laws.proofs.EveryChoice.{lawful}
use Rattle.rm_matching_laws.proofs.Rounds.{closing_closes}
use Rattle.rm_matching_laws.proofs.Tests.{closed_test}
use Rattle.rm_matching_laws.proofs.rounds_close.Goals as goal

pub returns : goal.returns
returns c = record {
  tested = λ n chosen w l a. closed_test chosen w (lawful n chosen w l a);
  closed = λ n chosen w l a. closing_closes chosen w (lawful n chosen w l a);
}
