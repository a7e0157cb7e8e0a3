-- The properties of a ring that are kept while a text is judged.
use Rattle.std.specs.Prelude.{◌<◌, ◌≤◌}
use Rattle.check_judge.specs.Words.{List, length, FileEntry, Identity, AreInRange, MOST_SLOTS}
use Rattle.check_judge.specs.Words.{RingSlots, HasCounted, IsRing, RingState, MOST_REGISTRATIONS}
use Rattle.check_judge.specs.Words.{MOST_SUBMISSIONS, AreFiles, ring_with_slots}

-- a ring's counts and its table are within their limits, it is what every ring is, and its
-- catalogue is that of a script
pub record IsOfScript (ring : RingState) : Type 0 where
  pub few_slots : ring.size ≤ MOST_SLOTS
  pub few_submissions : ring.submissions ≤ MOST_SUBMISSIONS
  pub few_registrations : ring.registrations ≤ MOST_REGISTRATIONS
  pub is_ring : IsRing ring
  pub files : AreFiles ring.catalogue
  pub in_range : AreInRange ring.at

-- the ring may have the file at a slot: it is of the catalogue, and the ring has counted its mark
pub record IsOfRing (ring : RingState) (file : Identity) : Type 0 where
  pub inside : file.entry < length ring.catalogue
  pub counted : HasCounted ring file.mark

abbrev pub IsRingKept : List FileEntry → RingSlots → Type 0
IsRingKept catalogue ring = IsOfScript (ring_with_slots catalogue ring)
