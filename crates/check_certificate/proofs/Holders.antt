-- An access that finds a file at its slot: some file was installed there before.
use Rattle.check_certificate.proofs.Words.{◌≡◌, ℕ, ◌+◌, ◌-◌, ◌<◌, ◌≤◌, List, [], ◌∷◌, ◌++◌, refl, sym, ◌∙◌, arith, subst, ⊎_elim, append_assoc, Some}
use Rattle.check_certificate.proofs.Words.{Option, None, slice_get, Moment, Logged, Accesses, IsOlderPart, Access, IsAccessAt, IsPut, Identity, Table}
use Rattle.check_certificate.proofs.Words.{table_with, table_left_by, Happening, Completed, Answered, made_by, Permits, Looks, Submitted, true, Has}
use Rattle.check_certificate.proofs.Words.{placed, IsAccessMade, IsEventAt, IsEvident, IsForced, IsOfCall, ℤ, TimedFlight, FindsFile, IsOnlyFile}
use Rattle.check_certificate.proofs.Words.{is_negative, IsEmptyAtFirst, IsWalked, Aimed, LogBeginning, Holding, Event, Gone, Put, At, Evidence}
use Rattle.check_certificate.proofs.Words.{Installs, IsCatalogue, negsuc, size_stays, first_of_call, pos, IsSome}
use Rattle.check_certificate.proofs.Forcing.{loose_order, not_after, strict_from, strict_order}
use Rattle.check_certificate.proofs.Intended.{chain_number, may_install}
use Rattle.check_certificate.proofs.Leaving.{same_moment, same_slot}
use Rattle.check_certificate.proofs.Life.{put_here, was_put}
use Rattle.check_certificate.proofs.Marks.{has_in, mark_at, no_look, of_chain}
use Rattle.check_certificate.proofs.Orders.{flies, here, new_file, older, ring, said, said_may, table}
use Rattle.check_certificate.proofs.Parts.{access_of_part, before_end, part_length, same_or_not, shorter}
use Rattle.check_certificate.proofs.Called.{answer_is, of_log}
use Rattle.check_certificate.specs.declared.certificate.OnlyFile.TheVariants.{GoneAfter, Nothing, PutBefore}

-- a number below 0
negative : (r : ℤ) → is_negative r ≡ true → (n : ℕ) × (r ≡ negsuc n)
negative r is = grind arith

some_of : (o : Option Identity) → IsSome o → (file : Identity) × (o ≡ Some file)
some_of o is = grind arith

same_range : (t : Table) (a : Access) → (table_with t a).range ≡ t.range
same_range t a = grind arith

range_stays : (t : Table) (flight : List Moment) → (table_left_by t flight).range ≡ t.range
range_stays t [] = refl
range_stays t (Logged e ∷ flight) = range_stays t flight
range_stays t (Accesses x ∷ flight) = same_range (table_left_by t flight) x.access ∙ range_stays t flight

module _ (b : LogBeginning) where
  -- an access with this evidence finds a file
  found_by : (evidence : Evidence) (slot : ℕ) (flight : List Moment) (a : Access) (f : TimedFlight b) → Permits (table_left_by (table f) flight) a
      → IsEvident a evidence → FindsFile b evidence slot
      → (file : Identity) × ((table_left_by (table f) flight).at slot ≡ Some file)
  found_by evidence slot flight a f may is finds = grind (arith, size_stays, range_stays, some_of)

  module _ (f : TimedFlight b) where
    module _ (h : Holding) (evidence : Evidence) (made : IsAccessMade b h.call h.answer h.access evidence) (finds : FindsFile b evidence h.slot)
        (first : IsEmptyAtFirst b h.slot) (walks : IsCatalogue b.catalogue.now → IsWalked b (Aimed h)) where
      -- the file that the access finds
      record IsHolder : Type 0 where
        file : Identity
        early : f.at (Put file) < f.at (At h.answer h.access)
        late : f.at (At h.answer h.access) ≤ f.at (Gone file h.slot)
        other : (IsOnlyFile h.found file → ⊥) → ⊥

      holder : IsHolder
      holder =
          let x = said f made in
          let t = table f in
          let found = found_by evidence h.slot x.time.0 x.access f (said_may f x) x.is finds in
          let inside : IsOlderPart x.time.0 f.legal.flight = older f x.time.1 in
          let new : t.at h.slot ≡ Some found.0 → ⊥ = λ there. let none : None ≡ Some found.0 = sym first ∙ there in cc in
          let was = was_put t h.slot found.0 new x.time.0 found.1 in
          let at = was.1.3 in
          let same : was.0 ≡ f.at (Put found.0) =
          (f.times.put found.0).each was.1.0 h.slot was.0 was.1.1 was.1.2 (access_of_part was.1.0 was.1.1 was.0 inside at) in
          let end = before_end x.time.0 was.1.0 was.1.1 was.0 at in
          let count = x.time.2 in
          let last = (f.times.gone found.0 h.slot).last x.time.0 inside found.1 in
          let y = here f made.answered in
          let before = x.before in
          let count_y = y.count in
          let part : IsOlderPart x.time.0 y.earlier = shorter y.earlier x.time.0 (older f y.inside) inside (omega arith) in
          let looks : (looked : ℕ) (seen : Option Identity) → was.1.1 ≡ Looks looked seen → ⊥ = λ looked seen is. no_look was.1.1 looked seen h.slot found.0 is was.1.2 in
          let i = of_log f y was.0 was.1.0 was.1.1 looks (access_of_part was.1.0 was.1.1 was.0 part at) in record {
            file = found.0;
            early = omega arith;
            late = omega arith;
            other = grind (arith, may_install i.by.intent was.1.1 h.slot found.0 i.by.of was.1.2);
          }

      pub holder_is : (file : Identity) → ((other : Identity) → IsOnlyFile h.found other → file ≡ other)
          → (f.at (Put file) < f.at (At h.answer h.access)) × (f.at (At h.answer h.access) ≤ f.at (Gone file h.slot))
      holder_is file only = grind (arith, holder, same_or_not)

      pub no_holder : ((file : Identity) → IsOnlyFile h.found file → ⊥) → ⊥
      no_holder none = let x = holder in x.other (none x.file)

  module _ (h : Holding) (evidence : Evidence) (made : IsAccessMade b h.call h.answer h.access evidence) (finds : FindsFile b evidence h.slot)
      (first : IsEmptyAtFirst b h.slot) (walks : IsCatalogue b.catalogue.now → IsWalked b (Aimed h)) where
    pub holder_forced : (file : Identity) → h.found ≡ GoneAfter file → IsForced b (not_after (At h.answer h.access) (Gone file h.slot))
    holder_forced file is f = loose_order f.at (At h.answer h.access) (Gone file h.slot)
        (holder_is f h evidence made finds first walks file (rw is (λ other held. held))).1

    pub holder_put : (file : Identity) → h.found ≡ PutBefore file → IsForced b (strict_from (Put file) (At h.answer h.access))
    holder_put file is f = strict_order f.at (Put file) (At h.answer h.access)
        (holder_is f h evidence made finds first walks file (rw is (λ other held. held))).0

    pub none_forced : h.found ≡ Nothing → IsForced b (strict_from (At h.answer h.access) (At h.answer h.access))
    none_forced is f = absurd (no_holder f h evidence made finds first walks (rw is (λ file held. held)))

  -- a file that is installed at another slot
  pub elsewhere_forced : (call answer k own slot id event : ℕ) (file : Identity) → IsAccessMade b call answer k (Installs own file) → IsOfCall id file
      → (own ≡ slot → ⊥) → IsForced b (not_after (Gone file slot) (Event event))
  elsewhere_forced call answer k own slot id event file made of other f =
      let t = table f in
      let new = new_file f file id of slot in
      ⊎_elim (λ never. loose_order f.at (Gone file slot) (Event event) (omega arith))
      (λ last. let x = said f made in
      let put = put_here t slot file f.legal.flight (f.at (Put file)) (f.times.put file) new last.0 last.1 last.2 in
      let there : IsAccessAt f.legal.flight put.0 put.1 (f.at (Put file)) = access_of_part put.0 put.1 (f.at (Put file)) last.1 put.3 in
      let time = (f.times.put file).each x.id own (f.at (At answer k)) x.access x.is x.time in
      grind (arith, same_slot, put.1, (same_moment f.legal.flight (f.at (Put file)) x.id put.0 x.access put.1 (rw time at x.time) there).1))
      (f.times.gone file slot).there

  -- a file whose member failed is not installed
  pub fails_forced : (event own entry : ℕ) (e : Happening) (c : Completed) (file : Identity) → IsEventAt b event e
      → IsEventAt b own (Answered c.place.submission c) → is_negative c.res ≡ true
      → file.mark ≡ Submitted c.place.submission 1 c.place.member entry → IsForced b (strict_from (Event event) (Put file))
  fails_forced event own entry e c file there answered failed mark f =
      ⊎_elim (λ put. absurd (fails put))
      (λ past. let x = here f there in
      let count = x.count in
      let few = part_length f.legal.flight (Logged e ∷ x.earlier) x.inside in strict_order f.at (Event event) (Put file) (omega arith))
      (f.times.put file).some
    where
      fails : ((id : ℕ) × (slot : ℕ) × (a : Access) × IsPut a slot file × IsAccessAt f.legal.flight id a (f.at (Put file))) → ⊥
      fails put =
          let own_mark = mark_at (ring f) f.legal.answers f.legal.flight f.legal.is file put.0 put.1 (f.at (Put file)) put.2 put.3 put.4 in
          let same : put.0 ≡ c.place.submission = cc (sym own_mark.2 ∙ mark) in
          let one = of_chain (ring f) f.legal.answers put.4.0 put.0 put.1 put.2 file put.3 (flies f put.4.1).1.1 in
          let has : Has (placed ((made_by put.0 put.4.0 ++ put.2 ∷ []) ++ one.more)) put.1 file =
          rw (append_assoc (made_by put.0 put.4.0) (put.2 ∷ []) one.more) (has_in (made_by put.0 put.4.0) put.2 one.more put.1 file put.3) in
          let got = answer_is f own c.place.submission c answered in
          let mine : slice_get (f.legal.answers put.0) (c.place.member - 1) ≡ Some c =
          subst (λ (i : ℕ). slice_get (f.legal.answers i) (c.place.member - 1) ≡ Some c) (sym same) got in
          let of_member : own_mark.0 ≡ c.place.member = cc (sym own_mark.2 ∙ mark) in
          let first = own_mark.3 in
          let number : 1 + (c.place.member - 1) ≡ c.place.member = omega arith in
          let mark_is : file.mark ≡ Submitted put.0 1 (1 + (c.place.member - 1)) entry =
          mark ∙ (λ i. Submitted (sym same i) 1 (sym number i) entry) in
          let res = chain_number (ring f).catalogue (ring f).size (first_of_call put.0) one.requests _ (f.legal.answers put.0) one.done put.1 file has
          (c.place.member - 1) entry c mine mark_is in
          let low = negative c.res failed in
          let both : negsuc low.0 ≡ pos res.0 = sym low.1 ∙ res.1 in
          cc
