use Rattle.rm_board_laws.proofs.Groups.{accepted_groups}
use Rattle.rm_board_laws.proofs.groups_of_a_tree.Goals as goal

pub returns : goal.returns
returns c = accepted_groups
