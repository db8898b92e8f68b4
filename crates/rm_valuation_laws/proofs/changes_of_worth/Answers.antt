use Rattle.rm_valuation_laws.proofs.Change.{worth_added, worth_removed, worth_swapped}
use Rattle.rm_valuation_laws.proofs.changes_of_worth.Goals as goal

pub returns : goal.returns
returns c = record { added = worth_added; removed = worth_removed; swapped = worth_swapped }
