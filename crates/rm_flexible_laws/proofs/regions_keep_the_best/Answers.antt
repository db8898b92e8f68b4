use Rattle.rm_flexible_laws.proofs.Results.{kept_is_best, flexible_is_best, best_is_picked}
use Rattle.rm_flexible_laws.proofs.regions_keep_the_best.Goals as goal

pub returns : goal.returns
returns c = record {
  one = λ doctors b regions board ok made. kept_is_best b regions ok doctors board made;
  all = λ doctors b regions board ok made. flexible_is_best b regions ok doctors board made;
  picked = λ doctors b regions board ok made. best_is_picked b regions ok doctors board made;
}
