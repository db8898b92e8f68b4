use Rattle.rm_matching_laws.proofs.EveryChoice.{every_choice}
use Rattle.rm_matching_laws.proofs.every_lawful_choice.Goals as goal

pub returns : goal.returns
returns c = every_choice
