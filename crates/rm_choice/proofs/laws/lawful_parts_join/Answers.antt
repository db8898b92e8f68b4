use Rattle.rm_matching_laws.proofs.UnionOfParts.{joined_is_lawful}
use Rattle.rm_choice.proofs.laws.lawful_parts_join.Goals as goal

pub returns : goal.returns
returns g c = joined_is_lawful _ (g.P.Parts.part c.args.parts.now) _ _ ((g.met.P.Parts.within) c.args.parts.now)
