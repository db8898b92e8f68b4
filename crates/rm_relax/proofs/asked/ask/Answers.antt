use Rattle.rm_relax.proofs.Groups.{group-low}
use Rattle.rm_relax.proofs.asked.ask.Goals as goal
