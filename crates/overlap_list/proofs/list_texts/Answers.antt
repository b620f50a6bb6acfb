use Rattle.overlap_list.proofs.Texts.{texts_listed}
use Rattle.overlap_list.proofs.list_texts.Goals as goal

pub returns : goal.returns
returns c = texts_listed c.note_texts-noted.ensures c.list_pair.ensures
