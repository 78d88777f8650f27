use Rattle.path_norm.proofs.Laws.{one_normal, is_rooted, has_no_dots, normal_again}
use Rattle.path_norm.proofs.normal.normal_paths_are_normal.Goals as goal

pub returns : goal.returns
returns c = record {
  one = one_normal;
  rooted = is_rooted;
  no_dots = has_no_dots;
  again = normal_again;
}
