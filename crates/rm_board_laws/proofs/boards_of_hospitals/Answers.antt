use Rattle.rm_board_laws.proofs.HospitalBoards.{hospitals_make_boards, plain_markets, accepted_markets, accepted_trees}
use Rattle.rm_board_laws.proofs.boards_of_hospitals.Goals as goal

pub returns : goal.returns
returns c = record { board = hospitals_make_boards; plain = plain_markets; accepted = accepted_markets; tree = accepted_trees }
