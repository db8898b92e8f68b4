use Rattle.rm_valuation_laws.proofs.Order.{child_of, just_above, leaf_under, under_tests, step_of_walk, leaf_of_walk, root_of_walk, swap_loss_at}
use Rattle.rm_valuation_laws.proofs.order_of_nodes.Goals as goal

pub returns : goal.returns
returns c = record { child = child_of; just_above = just_above; leaf = leaf_under; under = under_tests; walk_step = step_of_walk; walk_leaf = leaf_of_walk; walk_root = root_of_walk; swap_loss = swap_loss_at }
