use Rattle.rm_flexible_laws.proofs.Results.{kept_is_picked, flexible_is_picked, picked_is_one}
use Rattle.rm_flexible_laws.proofs.what_regions_keep.Goals as goal

pub returns : goal.returns
returns c = record { one = kept_is_picked; all = flexible_is_picked; only = picked_is_one }
