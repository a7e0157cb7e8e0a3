-- The life of a file at a slot: from the access that installs it on, until it is gone.
use Rattle.check_certificate.proofs.Words.{◌≡◌, ◌⊎◌, ℕ, ◌<◌, ◌≤◌, [], ◌∷◌, ◌++◌, refl, arith, inl, inr, Some, IsPut, Table, Has}
use Rattle.check_certificate.proofs.Words.{List, ⊎_elim, cases_lt, Moment, Logged, Accesses, Access, IsLeftAt, Identity}
use Rattle.check_certificate.proofs.Words.{length, length-append, IsOlderPart, IsAccessAt, IsPutTime, IsGoneTime, table_left_by, step_from, placed_by}
use Rattle.check_certificate.proofs.Parts.{access_of_part, before_end, one_more, shorter, whole}

-- a file that an access placed was installed by it
pub put_of : (a : Access) (slot : ℕ) (file : Identity) → Has (placed_by a) slot file → IsPut a slot file
put_of a slot file h4 = grind arith

-- an access of a flight installed the file at the slot at this time
abbrev pub IsPutAt : List Moment → ℕ → Identity → ℕ → Type 0
IsPutAt flight slot file time = (id : ℕ) × (a : Access) × IsPut a slot file × IsAccessAt flight id a time

pub put_later : (m : Moment) (flight : List Moment) (slot : ℕ) (file : Identity) (time : ℕ) → IsPutAt flight slot file time → IsPutAt (m ∷ flight) slot file time
put_later m flight slot file time put = (put.0, put.1, put.2, (put.3.0, one_more m put.3.1, put.3.2))

module _ (table : Table) (slot : ℕ) (file : Identity) where
  -- a file that is at the slot after more moments was there, or was installed since
  pub there_before : (later part : List Moment) → IsLeftAt table (later ++ part) slot file
      → IsLeftAt table part slot file ⊎ ((time : ℕ) × (length part ≤ time) × IsPutAt (later ++ part) slot file time)
  there_before [] part there = inl there
  there_before (Logged e ∷ later) part there = ⊎_elim (λ was. inl was) (λ put. inr (put.0, put.1, put_later (Logged e) (later ++ part) slot file put.0 put.2)) (there_before later part there)
  there_before (Accesses x ∷ later) part there =
      ⊎_elim
      (λ was. ⊎_elim (λ before. inl before) (λ put. inr (put.0, put.1, put_later (Accesses x) (later ++ part) slot file put.0 put.2)) (there_before later part was))
      (λ new. inr (
        length (later ++ part),
        omega (arith, length-append later part),
        (x.chain, x.access, put_of x.access slot file new, (later ++ part, whole (Accesses x ∷ later ++ part), refl)),
      ))
      (step_from (table_left_by table (later ++ part)) x.access there)

  -- a file that isn't there before a flight was installed by it
  pub was_put : (table.at slot ≡ Some file → ⊥) → (flight : List Moment) → IsLeftAt table flight slot file
      → (time : ℕ) × IsPutAt flight slot file time
  was_put new [] there = absurd (new there)
  was_put new (Logged e ∷ flight) there = let put = was_put new flight there in (put.0, put_later (Logged e) flight slot file put.0 put.1)
  was_put new (Accesses x ∷ flight) there =
      ⊎_elim (λ was. let put = was_put new flight was in (put.0, put_later (Accesses x) flight slot file put.0 put.1))
      (λ here. (length flight, (x.chain, x.access, put_of x.access slot file here, (flight, whole (Accesses x ∷ flight), refl))))
      (step_from (table_left_by table flight) x.access there)

  module _ (flight : List Moment) (put : ℕ) (is_put : IsPutTime flight file put) where
    -- once it is installed, it is there later only if it is there now
    pub stays : (later part : List Moment) → IsOlderPart (later ++ part) flight → put < length part → IsLeftAt table (later ++ part) slot file
        → IsLeftAt table part slot file
    stays later part inside early there =
        ⊎_elim (λ was. was)
        (λ more. let same = is_put.each more.2.0 slot more.0 more.2.1 more.2.2 (access_of_part more.2.0 more.2.1 more.0 inside more.2.3) in
        absurd (omega (arith, more.1)))
        (there_before later part there)

    -- once it is installed and isn't there, it is gone
    pub is_gone : (gone : ℕ) → IsGoneTime table flight file slot gone → (part : List Moment) → IsOlderPart part flight → put < length part
        → (IsLeftAt table part slot file → ⊥) → gone < length part
    is_gone gone is part inside early none =
        ⊎_elim (λ never. omega arith)
        (λ last. ⊎_elim (λ low. let same = last.3 in omega arith)
        (λ high. grind (arith, stays, shorter last.0 part last.1 inside high, last.2))
        (cases_lt (length last.0) (length part))) is.there

    -- the file was installed before it was at the slot
    pub put_before : (table.at slot ≡ Some file → ⊥) → (part : List Moment) → IsOlderPart part flight → IsLeftAt table part slot file → put < length part
    put_before new part inside there =
        let was = was_put new part there in
        grind (arith, access_of_part, is_put.each was.1.0 slot was.0 was.1.1 was.1.2 (access_of_part was.1.0 was.1.1 was.0 inside was.1.3), before_end part was.1.0 was.1.1 was.0 was.1.3)

    -- it is installed at the slot at which it is found
    pub put_here : (table.at slot ≡ Some file → ⊥) → (part : List Moment) → IsOlderPart part flight → IsLeftAt table part slot file
        → IsPutAt part slot file put
    put_here new part inside there =
        let was = was_put new part there in
        grind (arith, access_of_part, is_put.each was.1.0 slot was.0 was.1.1 was.1.2 (access_of_part was.1.0 was.1.1 was.0 inside was.1.3))
