-- The same answers, from what reading, listing and asking return: `text_said_lem`, `texts_said` and `texts_meet` of proofs/Said say that they
-- are the same.
use Rattle.std.specs.Prelude.{Ok, Err, Bool, cond, ℕ}
use Rattle.text_grammar.specs.Told.{Told}
use Rattle.std.specs.Prelude.{Ok, Err}
use Rattle.text_refusals.specs.verdicts.Verdicts.{Verdict, Accepted, Refused}
use Rattle.text_refusals.specs.verdicts.Verdicts.{number_of}
use Rattle.overlap_list.specs.Answers.{Listed, told}
use Rattle.yopobrush.specs.Answers.{numbered}
use Rattle.yopobrush.specs.declared.Reading.{Reading}
use Rattle.yopobrush.specs.declared.Listing.{Listing}
use Rattle.yopobrush.specs.declared.Overlapping.{Overlapping}

abbrev pub reading_by : Verdict → Reading
reading_by (Ok u) = record { refusal = 0; place = 0 }
reading_by (Err e) = record { refusal = number_of e.reason; place = e.place }

abbrev pub whole : Reading → Reading → Told → ℕ → ℕ → Listing
whole left right a n b = record { left = left; right = right; refusal = numbered a.number; entries = n; bytes = b }

abbrev pub listing_by : Reading → Reading → Listed → Listing
listing_by left right (Ok c) = whole left right (told (Ok c)) c.entries c.bytes
listing_by left right (Err r) = whole left right (told (Err r)) r.counts.entries r.counts.bytes

abbrev pub overlapping_by : Reading → Reading → Bool → Overlapping
overlapping_by left right b = record { left = left; right = right; overlap = cond b 1 0 }
