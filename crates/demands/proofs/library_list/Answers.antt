use Rattle.demands.specs.Library.{library_shared}
use Rattle.demands.proofs.library_list.Goals as goal

pub returns : goal.returns
returns c = library_shared c.yopobrush_list_overlaps.ensures
