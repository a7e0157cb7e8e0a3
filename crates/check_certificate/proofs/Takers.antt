-- A file that leaves its slot is taken by an access: which one it can be.
use Rattle.check_certificate.proofs.Words.{◌≡◌, ℕ, ◌+◌, ◌-◌, ◌<◌, ◌≤◌, List, [], ◌∷◌, ◌++◌, length, refl, sym, ap, ◌∙◌, arith, subst, Some}
use Rattle.check_certificate.proofs.Words.{⊎_elim, cases_lt, length-append, Option, None, slice_get, Moment, Logged, Accesses, IsOlderPart, Access}
use Rattle.check_certificate.proofs.Words.{IsAccessAt, IsPut, IsLeftAt, Identity, Table, table_with, table_left_by, Happening, Completed, FileEntry}
use Rattle.check_certificate.proofs.Words.{Answered, made_by, by_equality, Permits, Place, IsRequestDone, true, Looks, Takes, Puts}
use Rattle.check_certificate.proofs.Words.{either_option, IsInEach, MayInstall, is_negative, IsAccessMade, IsEventAt, IsForced, IsOfCall}
use Rattle.check_certificate.proofs.Words.{TimedFlight, IsNoOther, IsTakenThen, IsTaking, TakesNone, IsWalked, LogBeginning, Point, Event}
use Rattle.check_certificate.proofs.Words.{PointOrder, Gone, Put, At, Evidence, Leaves, Lands, Misses, IsCatalogue, answer_at_table, close_answer}
use Rattle.check_certificate.proofs.Words.{Operation, Found, Intent, Install, Clear, Take, Look, Allocate, made_by-parts, IsCallOf, by_intents}
use Rattle.check_certificate.proofs.Words.{false≢true, last_finding, AreIntended}
use Rattle.check_certificate.proofs.Called.{IsOfLog, answer_is, of_log}
use Rattle.check_certificate.proofs.Forcing.{apart, call_id, event_at, loose_order, not_after, strict_from, strict_order, unless_after, weaker}
use Rattle.check_certificate.proofs.Intended.{may_install}
use Rattle.check_certificate.proofs.Leaving.{there_after}
use Rattle.check_certificate.proofs.Life.{put_here}
use Rattle.check_certificate.proofs.Marks.{no_look as installs_not}
use Rattle.check_certificate.proofs.Orders.{IsHere, call_before, flies, here, new_file, older, said, table}
use Rattle.check_certificate.proofs.Parts.{access_of_part, none_of, one_more, part_cases, part_length, part_of_part, shorter, whole}
use Rattle.check_certificate.specs.Landed.{IsInstalledBefore, LandsThere, MissesThere}
use Rattle.check_certificate.specs.declared.walk.Landing.{Landing}
use Rattle.check_certificate.specs.declared.walk.Leaving.{Leaving}
use Rattle.fx_order.specs.Access.{with_file}

-- The next moment of a flight after a part.

next_moment : (m : Moment) (later part : List Moment) → (n : Moment) × IsOlderPart (n ∷ part) ((m ∷ later) ++ part)
next_moment m [] part = (m, whole (m ∷ part))
next_moment m (n ∷ later) part = let next = next_moment n later part in (next.0, one_more m next.1)

after_part : (flight part : List Moment) → IsOlderPart part flight → length part < length flight → (m : Moment) × IsOlderPart (m ∷ part) flight
after_part flight part ([], is) low = let long = ap length is in absurd (omega arith)
after_part flight part (m ∷ later, is) low = let next = next_moment m later part in (next.0, (next.1.0, is ∙ next.1.1))

-- Accesses of a call by their numbers.

fewer : (flight : List Moment) (id jd : ℕ) (a b : Access) (time late : ℕ) (x : IsAccessAt flight id a time) (y : IsAccessAt flight jd b late)
    → time < late → length (made_by id x.0) < length (made_by id y.0)
fewer flight id jd a b time late x y lt =
    let m : Moment = Accesses (record { chain = id; access = a }) in
    let n : Moment = Accesses (record { chain = jd; access = b }) in
    let few = x.2 in let few_too = y.2 in
    let more : IsOlderPart (m ∷ x.0) y.0 = shorter y.0 (m ∷ x.0) (part_of_part y.1 (n ∷ [], refl)) x.1 (omega arith) in
    let made : made_by id (m ∷ x.0) ≡ made_by id x.0 ++ a ∷ [] = grind (arith, by_equality) in
    let all : made_by id y.0 ≡ (made_by id x.0 ++ a ∷ []) ++ made_by id more.0 =
    ap (made_by id) more.1 ∙ (made_by-parts id more.0 (m ∷ x.0) ∙ ap (λ l. l ++ made_by id more.0) made) in
    let sum = ap length all in
    let one = length-append (made_by id x.0 ++ a ∷ []) (made_by id more.0) in
    let two = length-append (made_by id x.0) (a ∷ []) in omega arith

-- accesses of a call with one number are at one time
pub same_number : (flight : List Moment) (id jd : ℕ) → id ≡ jd → (a b : Access) (time late : ℕ) (x : IsAccessAt flight id a time) (y : IsAccessAt flight jd b late)
    → length (made_by id x.0) ≡ length (made_by jd y.0) → time ≡ late
same_number flight id jd same a b time late x y number =
    let own_y = ap (λ (i : ℕ). length (made_by i y.0)) same in
    let own_x = ap (λ (i : ℕ). length (made_by i x.0)) same in
    ⊎_elim (λ lt. let low = fewer flight id jd a b time late x y lt in absurd (omega arith))
    (λ high. ⊎_elim (λ lt. let low = fewer flight jd id b a late time y x lt in absurd (omega arith)) (λ low. omega arith) (cases_lt late time))
    (cases_lt time late)

-- a file that is at a slot before an access, and not after it, was taken by it
at_slot : (t : Table) (own slot : ℕ) (removed new : Option Identity) (file : Identity) → removed ≡ t.at own → t.at slot ≡ Some file
    → ((with_file t own new).at slot ≡ Some file → ⊥) → (own ≡ slot) × (removed ≡ Some file)
at_slot t own slot removed new file is was gone = grind arith

put_there : (t : Table) (own slot : ℕ) (new file : Identity) → own ≡ slot → new ≡ file → (with_file t own (Some new)).at slot ≡ Some file
put_there t own slot new file same is = grind arith

pub takes_it : (t : Table) (a : Access) (slot : ℕ) (file : Identity) → Permits t a → t.at slot ≡ Some file
    → ((table_with t a).at slot ≡ Some file → ⊥) → IsTaking a slot file
takes_it t a slot file may was gone = grind (arith, at_slot, put_there)

-- A member that failed takes no file.

only : (x : Access) (front : List Access) (a : Access) (rest : List Access) → x ∷ [] ≡ front ++ a ∷ rest → x ≡ a
only x [] a rest is = cc
only x (y ∷ front) a rest is = let tail : [] ≡ front ++ a ∷ rest = cc in absurd (none_of front a rest tail)

module _ (catalogue : List FileEntry) (place : Place) where
  abbrev TookNone : Operation → List Access → Type 0
  TookNone operation accesses =
      (front : List Access) (a : Access) (rest : List Access) (slot : ℕ) (file : Identity) → accesses ≡ front ++ a ∷ rest
      → is_negative (answer_at_table catalogue place operation (last_finding accesses)).res ≡ true → IsTaking a slot file → ⊥

  closed_none : (own : ℕ) (found : Option Identity) (slot : ℕ) (file : Identity)
      → is_negative (close_answer place (Some (Found found))).res ≡ true → IsTaking (Takes own found) slot file → ⊥
  closed_none own None slot file low takes = let none : None ≡ Some file = takes.1 in cc
  closed_none own (Some other) slot file low takes = false≢true low

  took_none_at_table : (operation : Operation) (accesses : List Access) → AreIntended catalogue place operation accesses → TookNone operation accesses
  took_none_at_table operation accesses made = grind (arith, by_intents, only, closed_none)

pub took_none : (catalogue : List FileEntry) (size : ℕ) (place : Place) (operation : Operation) (front : List Access) (a : Access) (rest : List Access) (c : Completed)
    → IsRequestDone catalogue size place operation (front ++ a ∷ rest) c → is_negative c.res ≡ true → (slot : ℕ) (file : Identity) → IsTaking a slot file → ⊥
took_none catalogue size place operation front a rest c done low slot file takes = grind (arith, either_option, none_of, took_none_at_table)

-- an order with these points
pub same_order : (o : PointOrder) (from to : Point) → o.strict ≡ true → o.from ≡ from → o.to ≡ to → o ≡ strict_from from to
same_order o from to strict first last = λ i. record { from = first i; to = last i; strict = strict i }

-- points of a strict order are apart
pub strict_apart : (o : PointOrder) (one other : Point) → o ≡ strict_from one other → (b : LogBeginning) → IsForced b o
    → IsInEach b (λ at. at one ≡ at other → ⊥)
strict_apart o one other is b known f same =
    let low = apart f.at one other (rw is at (known f)) in omega arith

pub strict_apart_back : (o : PointOrder) (one other : Point) → o ≡ strict_from other one → (b : LogBeginning) → IsForced b o
    → IsInEach b (λ at. at one ≡ at other → ⊥)
strict_apart_back o one other is b known f same =
    let low = apart f.at other one (rw is at (known f)) in omega arith

-- an answer, with the place that it has
pub answered_at : (b : LogBeginning) (answer : ℕ) (place : Place) (c : Completed) → IsEventAt b answer (Answered c.place.submission c) → c.place ≡ place
    → (d : Completed) × IsEventAt b answer (Answered place.submission d) × (d.place ≡ place)
answered_at b answer place c there same =
    (c, subst (λ (i : ℕ). IsEventAt b answer (Answered i c)) (ap (λ (p : Place). p.submission) same) there, same)

pub failed_at : (b : LogBeginning) (answer : ℕ) (place : Place) (c : Completed) → IsEventAt b answer (Answered c.place.submission c) → c.place ≡ place
    → is_negative c.res ≡ true → (d : Completed) × IsEventAt b answer (Answered place.submission d) × (d.place ≡ place) × (is_negative d.res ≡ true)
failed_at b answer place c there same failed =
    (c, subst (λ (i : ℕ). IsEventAt b answer (Answered i c)) (ap (λ (p : Place). p.submission) same) there, same, failed)

module _ {b : LogBeginning} (f : TimedFlight b) where
  -- an access of a call before an event takes the file when it leaves its slot
  record IsTakenBefore (earlier : List Moment) (file : Identity) (slot : ℕ) : Type 0 where
    id : ℕ
    access : Access
    at : IsAccessAt earlier id access (f.at (Gone file slot))
    takes : IsTaking access slot file

  taken_before : (until : ℕ) (e : Happening) (y : IsHere f until e) (file : Identity) (slot : ℕ)
      → 0 < f.at (Gone file slot) → f.at (Gone file slot) ≤ f.at (Event until) → IsTakenBefore y.earlier file slot
  taken_before until e y file slot some low =
      ⊎_elim (λ never. absurd (omega arith))
      (λ last. let few = last.3 in let count = y.count in
      let part : IsOlderPart last.0 (Logged e ∷ y.earlier) = shorter (Logged e ∷ y.earlier) last.0 y.inside last.1 (omega arith) in
      let next = after_part (Logged e ∷ y.earlier) last.0 part (omega arith) in
      by_moment last.0 last.2 last.3 next.0 next.1)
      (f.times.gone file slot).there
    where
      by_moment : (part : List Moment) → IsLeftAt (table f) part slot file → length part ≡ f.at (Gone file slot) → (m : Moment)
          → IsOlderPart (m ∷ part) (Logged e ∷ y.earlier) → IsTakenBefore y.earlier file slot
      by_moment part there few (Logged d) inside =
          let low = (f.times.gone file slot).last (Logged d ∷ part) (part_of_part y.inside inside) there in absurd (omega arith)
      by_moment part there few (Accesses x) inside =
          let within : IsOlderPart (Accesses x ∷ part) f.legal.flight = part_of_part y.inside inside in
          let gone : IsLeftAt (table f) (Accesses x ∷ part) slot file → ⊥ =
          λ still. let low = (f.times.gone file slot).last (Accesses x ∷ part) within still in omega arith in
          let older_one : IsOlderPart (Accesses x ∷ part) y.earlier =
          ⊎_elim (λ same. let head : Accesses x ≡ Logged e = cc in absurd (cc)) (λ is. is) (part_cases (Logged e) y.earlier (Accesses x ∷ part) inside) in
          record {
            id = x.chain;
            access = x.access;
            at = (part, older_one, few);
            takes = takes_it (table_left_by (table f) part) x.access slot file (flies f within).1.0 there gone;
          }

  -- the call of an access that installs a file before an event
  installed_by : (until : ℕ) (e : Happening) → IsEventAt b until e → (id slot time : ℕ) (a : Access) (file : Identity) → IsPut a slot file
      → (at : IsAccessAt f.legal.flight id a time) → time < f.at (Event until)
      → IsOfLog f until id a (length (made_by id at.0))
  installed_by until e there id slot time a file is at early =
      let y = here f there in
      let count = y.count in let few = at.2 in
      let m : Moment = Accesses (record { chain = id; access = a }) in
      let part : IsOlderPart (m ∷ at.0) y.earlier = shorter y.earlier (m ∷ at.0) (older f y.inside) at.1 (omega arith) in
      of_log f y time id a (λ looked seen same. installs_not a looked seen slot file same is) (at.0, part, at.2)

  -- a file that was installed before an event is at the slot at which it may be
  pub landed : (l : Landing) (e : Happening) → IsEventAt b l.until e → IsWalked b (Lands l) → f.at (Put l.file) < f.at (Event l.until)
      → f.at (Put l.file) < f.at (Gone l.file l.slot)
  landed l e there walked early =
      ⊎_elim
      (λ put. let i = installed_by l.until e there put.0 put.1 (f.at (Put l.file)) put.2 l.file put.3 put.4 early in
      let same : put.1 ≡ l.slot = there_only l i.by.intent put.1
      (walked i.p put.0 i.requests i.low i.called i.by.n i.by.request i.by.asked i.by.k i.by.intent i.by.is)
      (may_install i.by.intent put.2 put.1 l.file i.by.of put.3) in
      let m : Moment = Accesses (record { chain = put.0; access = put.2 }) in
      let left : IsLeftAt (table f) (m ∷ put.4.0) l.slot l.file =
      subst (λ (k : ℕ). IsLeftAt (table f) (m ∷ put.4.0) k l.file) same
      (there_after (table_left_by (table f) put.4.0) put.2 put.1 l.file put.3) in
      let low = (f.times.gone l.file l.slot).last (m ∷ put.4.0) put.4.1 left in let few = put.4.2 in omega arith)
      (λ past. let y = here f there in
      let count = y.count in
      let whole_part = part_length f.legal.flight (Logged e ∷ y.earlier) y.inside in absurd (omega arith))
      (f.times.put l.file).some
    where
      there_only : (l : Landing) (intent : Intent) (slot : ℕ) → LandsThere l intent → MayInstall intent slot l.file → slot ≡ l.slot
      there_only l (Install own file) slot lands may = sym may.0 ∙ lands may.1
      there_only l (Allocate file) slot lands may = absurd (lands may)
      there_only l (Look own) slot lands may = absurd may
      there_only l (Clear own) slot lands may = absurd may
      there_only l (Take own) slot lands may = absurd may

  -- and at no other one
  pub missed : (l : Landing) (e : Happening) (id : ℕ) → IsEventAt b l.until e → IsWalked b (Misses l) → IsOfCall id l.file
      → f.at (Put l.file) < f.at (Event l.until) → f.at (Gone l.file l.slot) ≤ f.at (Put l.file)
  missed l e id there walked of early =
      ⊎_elim (λ never. omega arith)
      (λ last. let put = put_here (table f) l.slot l.file f.legal.flight (f.at (Put l.file)) (f.times.put l.file)
      (new_file f l.file id of l.slot) last.0 last.1 last.2 in
      let i = installed_by l.until e there put.0 l.slot (f.at (Put l.file)) put.1 l.file put.2 (access_of_part put.0 put.1 (f.at (Put l.file)) last.1 put.3) early in
      absurd (not_there l i.by.intent (walked i.p put.0 i.requests i.low i.called i.by.n i.by.request i.by.asked i.by.k i.by.intent i.by.is)
      (may_install i.by.intent put.1 l.slot l.file i.by.of put.2)))
      (f.times.gone l.file l.slot).there
    where
      not_there : (l : Landing) (intent : Intent) → MissesThere l intent → MayInstall intent l.slot l.file → ⊥
      not_there l (Install own file) misses may = misses may.1 may.0
      not_there l (Allocate file) misses may = misses may
      not_there l (Look own) misses may = may
      not_there l (Clear own) misses may = may
      not_there l (Take own) misses may = may

  no_look : (a : Access) (slot : ℕ) (file : Identity) → IsTaking a slot file → (looked : ℕ) (seen : Option Identity) → a ≡ Looks looked seen → ⊥
  no_look a slot file takes looked seen is = let none : IsTaking (Looks looked seen) slot file = rw is at takes in none

  -- so it is the access that may take it
  pub taker : (l : Leaving) (e : Happening) → IsEventAt b l.until e → IsWalked b (Leaves l) → 0 < f.at (Gone l.file l.slot)
      → f.at (Gone l.file l.slot) ≤ f.at (Event l.until) → IsTakenThen l.taker (Gone l.file l.slot) f.at
  taker l e there walked some low =
      let y = here f there in
      let x = taken_before l.until e y l.file l.slot some low in
      let i = of_log f y (f.at (Gone l.file l.slot)) x.id x.access
      (no_look x.access l.slot l.file x.takes) x.at in
      let member : 1 + i.by.n - 1 ≡ i.by.n = omega arith in
      walked i.p x.id i.requests i.low i.called i.by.n i.by.request i.by.asked i.by.k i.by.intent i.by.is f x.access i.by.of x.takes
      (record {
        at = (x.at.0, part_of_part (older f y.inside) x.at.1, x.at.2);
        first = λ one. i.by.first (omega (arith, one));
        c = i.by.c;
        answer = ap (slice_get (f.legal.answers x.id)) member ∙ i.by.answer;
        own = i.by.at;
        front = i.by.front;
        rest = i.by.rest;
        done = i.by.done;
      })

module _ (b : LogBeginning) where
  module _ (l : Leaving) (inside : l.until < length b.events.now) (walks : IsCatalogue b.catalogue.now → IsWalked b (Leaves l))
      (there : IsForced b (strict_from (Event l.since) (Gone l.file l.slot))) where
    pub stays_forced : l.taker ≡ None → IsForced b (strict_from (Event l.until) (Gone l.file l.slot))
    stays_forced none f =
        let some = apart f.at (Event l.since) (Gone l.file l.slot) (there f) in
        let e = event_at b l.until inside in
        unless_after f.at (Event l.until) (Gone l.file l.slot) (λ low.
        let taken : IsTakenThen None (Gone l.file l.slot) f.at = rw none at (taker f l e.0 e.1 (walks f.sound.catalogue) (omega arith) low) in taken)

    pub taken_then : (point : Point) → l.taker ≡ Some point → (o : PointOrder) → o.from ≡ Gone l.file l.slot → o.to ≡ Event l.until → IsForced b o
        → IsInEach b (λ at. at point ≡ at o.from)
    taken_then point is o from to known f =
        let some = apart f.at (Event l.since) (Gone l.file l.slot) (there f) in
        let low = rw (from, to) at (weaker f.at o (known f)) in
        let e = event_at b l.until inside in
        rw is at (taker f l e.0 e.1 (walks f.sound.catalogue) (omega arith) low) ∙ ap f.at (sym from)

  pub lands_forced : (l : Landing) → l.until < length b.events.now → (IsCatalogue b.catalogue.now → IsWalked b (Lands l)) → IsInstalledBefore b l
      → IsForced b (strict_from (Put l.file) (Gone l.file l.slot))
  lands_forced l inside walks installed f =
      let e = event_at b l.until inside in grind (arith, strict_order, landed, apart)

  pub misses_forced : (l : Landing) (id : ℕ) → l.until < length b.events.now → (IsCatalogue b.catalogue.now → IsWalked b (Misses l)) → IsOfCall id l.file
      → IsInstalledBefore b l → IsForced b (not_after (Gone l.file l.slot) (Put l.file))
  misses_forced l id inside walks of installed f =
      let e = event_at b l.until inside in
      grind (arith, apart, loose_order f.at (Gone l.file l.slot) (Put l.file), missed f l e.0 id e.1 (walks f.sound.catalogue) of (apart f.at (Put l.file) (Event l.until) (installed f)))

  pub not_before : (one other : Point) (o : PointOrder) → o ≡ not_after one other → IsInEach b (λ at. at one ≡ at other) → IsForced b o
  not_before one other o is same f = let one_time = same f in rw is (loose_order f.at one other (omega arith))

  pub not_later : (one other : Point) (o : PointOrder) → o ≡ not_after other one → IsInEach b (λ at. at one ≡ at other) → IsForced b o
  not_later one other o is same f = let one_time = same f in rw is (loose_order f.at other one (omega arith))

  pub no_other_by : (l : Leaving) (point : Point) → IsInEach b (λ at. at point ≡ at (Gone l.file l.slot) → ⊥) → IsNoOther b l point
  no_other_by l point apart f same = absurd (apart f same)

  pub the_taker : (l : Leaving) (point : Point) → l.taker ≡ Some point → IsNoOther b l point
  the_taker l point is f same = rw is same

  module _ (l : Leaving) (place : Place) (operation : Operation) (k : ℕ) where
    pub put_itself : (own : ℕ) (file : Identity) → file ≡ l.file → TakesNone b l place operation k (Install own file)
    put_itself own file same f a of takes made =
        let here : IsTaking (Puts own file of.0) l.slot l.file = rw of.1 at takes in absurd (here.2 same)

    -- An access whose time is known.

    pub put_takes_none : (own : ℕ) (file : Identity) → IsNoOther b l (Put file) → TakesNone b l place operation k (Install own file)
    put_takes_none own file other f a of takes made =
        let put : IsPut a own file = rw of.1 (refl, refl) in other f (sym ((f.times.put file).each place.submission own _ a put made.at))

    pub first_takes_none : (call answer : ℕ) (evidence : Evidence) (e : Happening) (c : Completed) (intent : Intent) → IsAccessMade b call answer k evidence
        → IsEventAt b call e → IsCallOf place.submission e → IsEventAt b answer (Answered place.submission c) → c.place ≡ place → place.member ≡ 1
        → IsNoOther b l (At answer k) → TakesNone b l place operation k intent
    first_takes_none call answer evidence e c intent shows called own answered at_place member other f a of takes made =
        let x = said f shows in
        let event : Some x.begins ≡ Some e = sym x.called ∙ called in
        let begins : x.begins ≡ e = cc in
        let same : x.id ≡ place.submission = call_id e x.id place.submission (rw begins at x.own) own in
        let event_too : Some x.ends ≡ Some (Answered place.submission c) = sym x.answered ∙ answered in
        let ends : x.ends ≡ Answered place.submission c = cc in
        let first : c.place.member ≡ 1 = ap (λ (p : Place). p.member) at_place ∙ member in
        let number = x.first (rw ends first) in
        other f (same_number f.legal.flight x.id place.submission same x.access a _ _ x.time made.at (number ∙ sym (made.first member)))

    pub later_takes_none : (call : ℕ) (e : Happening) (intent : Intent) → IsEventAt b call e → IsCallOf place.submission e
        → IsForced b (strict_from (Gone l.file l.slot) (Event call)) → TakesNone b l place operation k intent
    later_takes_none call e intent called own known f a of takes made =
        grind (arith, apart f.at (Gone l.file l.slot) (Event call) (known f), call_before f called own made.at)

    -- An access of a member that failed.

    pub failed_takes_none : (answer : ℕ) (c : Completed) (intent : Intent) → IsEventAt b answer (Answered place.submission c) → c.place ≡ place
        → is_negative c.res ≡ true → TakesNone b l place operation k intent
    failed_takes_none answer c intent answered at_place failed f a of takes made = grind (arith, answer_is, took_none)
