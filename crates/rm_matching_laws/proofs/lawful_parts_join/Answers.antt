use Rattle.rm_matching_laws.proofs.UnionOfParts.{joined_is_lawful}
use Rattle.rm_matching_laws.proofs.lawful_parts_join.Goals as goal

pub returns : goal.returns
returns c n part parts choose = joined_is_lawful n part choose parts
