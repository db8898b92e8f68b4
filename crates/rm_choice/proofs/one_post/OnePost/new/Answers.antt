use Rattle.rm_choice.proofs.FirstOnly.{first_is_lawful}
use Rattle.rm_choice.proofs.one_post.OnePost.new.Goals as goal

pub invariant_of-result : goal.invariant_of-result
invariant_of-result c = record { lawful = first_is_lawful c.args.contracts }
