use Rattle.rm_board_laws.proofs.TieOrders.{hospital_ties, rank_ties}
use Rattle.rm_board_laws.proofs.ListedOrder.{listed_ties}
use Rattle.rm_board_laws.proofs.tie_orders.Goals as goal

pub returns : goal.returns
returns c = record { hospital = hospital_ties; rank = rank_ties; listed = listed_ties }
