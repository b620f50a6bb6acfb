use Rattle.overlap_list.proofs.Texts.{texts_meet}
use Rattle.overlap_list.proofs.shared.texts_overlap.Goals as goal

pub returns : goal.returns
returns c = texts_meet c.note_texts-noted.ensures c.any_choice.ensures
