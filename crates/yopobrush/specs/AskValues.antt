-- The same answers, from what asking and committing return: `texts_asked` and `texts_committed` of proofs/Asks say that they are the
-- same.
use Rattle.overlap_counts.specs.declared.Counts.{Counts}
use Rattle.overlap_counts.specs.Answers.{Committed, told}
use Rattle.yopobrush.specs.declared.Reading.{Reading}
use Rattle.yopobrush.specs.declared.Listing.{Listing}
use Rattle.yopobrush.specs.declared.Asking.{Asking}
use Rattle.yopobrush.specs.Asks.{listing_told}

abbrev pub asking_by : Reading → Reading → Counts → Asking
asking_by left right c = record { left = left; right = right; entries = c.entries; bytes = c.bytes }

abbrev pub committing_by : Reading → Reading → Committed → Listing
committing_by left right c = listing_told left right (told c)
