-- The refusals of a policy's groups and of its tie order, as faults of reading.
use Rattle.rm_base.specs.declared.ReadFault.{ReadFault}
use Rattle.rm_base.specs.declared.ReadFault.TheVariants as fault
use Rattle.rm_market.specs.declared.TreeFault.{TreeFault}
use Rattle.rm_market.specs.declared.TreeFault.TheVariants as tree
use Rattle.rm_market.specs.declared.BoardFault.{BoardFault}
use Rattle.rm_market.specs.declared.BoardFault.TheVariants as board
use Rattle.rm_case.specs.Case.{tree_refusal, ties_refusal}

-- why groups make no tree
abbrev pub tree_read_fault : TreeFault → ReadFault
tree_read_fault tree.NoMemory = fault.NoMemory
tree_read_fault (tree.Empty b) = fault.Refused (tree_refusal (tree.Empty b))
tree_read_fault (tree.Crossing a b both only_a only_b) = fault.Refused (tree_refusal (tree.Crossing a b both only_a only_b))
tree_read_fault (tree.Deep b) = fault.Refused (tree_refusal (tree.Deep b))

-- why a listed order is none
abbrev pub ties_read_fault : BoardFault → ReadFault
ties_read_fault board.NoMemory = fault.NoMemory
ties_read_fault (board.Unknown e) = fault.Refused (ties_refusal (board.Unknown e))
ties_read_fault (board.Repeated e f) = fault.Refused (ties_refusal (board.Repeated e f))
ties_read_fault (board.AgainstRank e f) = fault.Refused (ties_refusal (board.AgainstRank e f))
ties_read_fault (board.Missing d h) = fault.Refused (ties_refusal (board.Missing d h))
