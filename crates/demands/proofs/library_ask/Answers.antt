use Rattle.demands.specs.LibraryCommitting.{library_asking}
use Rattle.demands.proofs.library_ask.Goals as goal

pub returns : goal.returns
returns c = library_asking c.yopobrush_ask_overlaps.ensures
