use Rattle.rm_case.proofs.RaisedLemmas.{is_raised, market_raised}
use Rattle.rm_case.proofs.case.Case.raised.Goals as goal

pub returns-clause-raised : goal.returns-clause-raised
returns-clause-raised c = is_raised c.args.self.now c.args.g c.args.cap c.roster.ensures.case c.requires

pub returns-clause-market : goal.returns-clause-market
returns-clause-market c = market_raised c.args.self.now c.args.g c.args.cap c.roster.ensures.case c.requires
