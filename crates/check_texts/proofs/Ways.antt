-- The ways of plays in which memory is found: their texts, and those that begin with an exit.
use Rattle.check_texts.proofs.Words.{Bor, Exits, KeptWays, KeptExit, Bool, Contains, FileEntry, Instruction, IsTextFound, List, Meaning}
use Rattle.check_texts.proofs.Words.{PrintsAllFound, Reported, RingContents, RingState, RingSlots, Stage, [], ap, arith, false, length, map, new_ring}
use Rattle.check_texts.proofs.Words.{refl, ring_of, subst, sym, true, ℕ, ⊎_elim, ◌++◌, ◌+◌, ◌<◌, ◌≤◌, ◌∙◌, ◌∷◌, ◌≡◌, ◌⊎◌, inl, inr, suc, zero}
use Rattle.check_texts.proofs.Words.{append-nil, contains_map, contains_mapped, contains_none, option_to_list, ring_with_slots, stages_of}
use Rattle.check_texts.proofs.Words.{HasEachNextStage, IsTrue, MayLeadTo, stage, All, IfSome, None, Option, Some, Grows, bytes_decides, list_any}
use Rattle.check_texts.proofs.Words.{map-append, string_bytes, append_assoc, instruction_of, concat, length-append, length-map, All-contains}
use Rattle.check_texts.proofs.Words.{All-weaker, Contains-append_cases, Contains-append_left, Contains-append_right, Contains-push_cases}
use Rattle.check_texts.proofs.Words.{contains_head, contains_only, contains_tail, PrintsEnd, AreBare, AreDistinct, AreWays, CountsUpTo, GoesBy}
use Rattle.check_texts.proofs.Words.{HasWays, IsBare, IsWay, ways_after, Global, String, string_eq, min, not, ◌-◌, ◌^◌, AreExits, AreWaysBy}
use Rattle.check_texts.proofs.Words.{AreWaysOf, AreCounted, AreAllCounted, AreRests, IsRest, ways_at, ways_by, bare, commands_in, rests_in, Layer}
use Rattle.check_texts.proofs.Words.{Vec, none_rings, list_any_at, true≢false, slice_get, take, flat_map, flat_map_more, slice_get-map}
use Rattle.check_texts.proofs.Words.{slice_get_within, get_or_from_slice_get, option_map}
use Rattle.check_texts.proofs.Walks.{starts}

-- a text found is that of a way, and a way's text is found

pub way_of_text : (ring : RingContents) (commands : List Instruction) (text : List ℕ) (reports : List Reported)
    → PrintsAllFound ring commands text reports → (way : List (List ℕ)) × GoesBy ring commands way × (text ≡ concat way)
way_of_text ring [] text reports (ends, none) = (text ∷ [], (text, ends, refl), sym (append-nil text))
way_of_text ring (command ∷ commands) text reports (next, line, others, own, later, prints, memory, split, parts, rest) =
    let (way, goes, same) = way_of_text next commands others later rest in
    (line ∷ way, (next, line, way, (own, prints, memory), refl, goes), split ∙ ap (λ (t : List ℕ). line ++ t) same)

pub text_of_way : (ring : RingContents) (commands : List Instruction) (way : List (List ℕ)) → GoesBy ring commands way
    → (reports : List Reported) × PrintsAllFound ring commands (concat way) reports
text_of_way ring [] way (end, ends, is) =
    let same : concat way ≡ end = ap concat is ∙ append-nil end in
    ([], (subst (PrintsEnd (ring_of ring)) (sym same) ends, refl))
text_of_way ring (command ∷ commands) way (next, line, others, (own, prints, memory), is, goes) =
    let (reports, rest) = text_of_way next commands others goes in
    (option_to_list own ++ reports, (next, line, concat others, own, reports, prints, memory, ap concat is, refl, rest))

-- lists in which nothing comes again

pub distinct_append : {A : Type 0} (xs ys : List A) → AreDistinct xs → AreDistinct ys → ((x : A) → Contains xs x → Contains ys x → ⊥)
    → AreDistinct (xs ++ ys)
distinct_append [] ys one other apart = other
distinct_append (x ∷ xs) ys (new, one) other apart = (
  λ inside. ⊎_elim new (apart x (contains_head x xs)) (Contains-append_cases xs ys x inside),
  distinct_append xs ys one other (λ y here there. apart y (contains_tail x xs y here) there),
)

pub distinct_behind : (line : List ℕ) (ways : List (List (List ℕ))) → AreDistinct ways → AreDistinct (ways_after line ways)
distinct_behind line [] none = tt
distinct_behind line (way ∷ ways) (new, others) = (
  λ inside.
      let (other, there, is) = contains_map (λ (w : List (List ℕ)). line ∷ w) ways (line ∷ way) inside in
      let same : other ≡ way = cc in new (subst (Contains ways) same there),
  distinct_behind line ways others,
)

-- lists and their elements by number

-- an element of two lists is one of the first, or of the second
get_front : {X : Type 0} (xs ys : List X) (k : ℕ) (x : X) → slice_get xs k ≡ Some x → slice_get (xs ++ ys) k ≡ Some x
get_front [] ys k x is = absurd (cc)
get_front (y ∷ xs) ys zero x is = is
get_front (y ∷ xs) ys (suc k) x is = get_front xs ys k x is

get_behind : {X : Type 0} (xs ys : List X) (n : ℕ) → slice_get (xs ++ ys) (length xs + n) ≡ slice_get ys n
get_behind [] ys n = ap (slice_get ys) (let none : 0 + n ≡ n = omega arith in none)
get_behind (x ∷ xs) ys n = grind (arith, get_behind xs ys n)

-- the last of a list, or one before it
get_last : {X : Type 0} (xs : List X) (x : X) (k : ℕ) (y : X) → slice_get (xs ++ x ∷ []) k ≡ Some y
    → ((slice_get xs k ≡ Some y) × (take k (xs ++ x ∷ []) ≡ take k xs)) ⊎ ((x ≡ y) × (take k (xs ++ x ∷ []) ≡ xs))
get_last {X} [] x zero y is = inr (cc, refl)
get_last {X} [] x (suc k) y is = absurd (cc)
get_last {X} (z ∷ xs) x zero y is = inl (is, refl)
get_last {X} (z ∷ xs) x (suc k) y is =
    ⊎_elim (λ own. inl (own.0, ap (λ (l : List X). z ∷ l) own.1)) (λ last. inr (last.0, ap (λ (l : List X). z ∷ l) last.1)) (get_last xs x k y is)

-- one of the list of an element, among the lists of all
get_from : {X Y : Type 0} (f : X → List Y) (xs : List X) (k : ℕ) (x : X) (n : ℕ) (y : Y) → slice_get xs k ≡ Some x → slice_get (f x) n ≡ Some y
    → slice_get (flat_map f xs) (length (flat_map f (take k xs)) + n) ≡ Some y
get_from f [] k x n y is at = absurd (cc)
get_from f (z ∷ xs) zero x n y is at = grind (arith, get_front)
get_from f (z ∷ xs) (suc k) x n y is at =
    let split : length (f z ++ flat_map f (take k xs)) + n ≡ length (f z) + (length (flat_map f (take k xs)) + n) =
    omega (arith, length-append (f z) (flat_map f (take k xs))) in grind (arith, get_behind, get_from f xs k x n y is at)

pub gotten : {X : Type 0} (xs : List X) (k : ℕ) {x : X} → slice_get xs k ≡ Some x → Contains xs x
gotten xs k {x} is = (k, slice_get_within xs k x is, get_or_from_slice_get xs k x x is)

-- the ways of an exit, after those before it
module _ (behind : List (List KeptWays)) (exits : List KeptExit) (exit : KeptExit) where
  pub ways_of_more : ways_by behind (exits ++ exit ∷ []) ≡ ways_by behind exits ++ ways_after (string_bytes exit.line) (ways_at behind exit.number)
  ways_of_more = sym (flat_map_more (λ (e : KeptExit). ways_after (string_bytes e.line) (ways_at behind e.number)) [] exits exit)

  -- they are counted right
  pub counted_more : {old new : KeptWays} → old.exits.items ≡ exits → new.exits.items ≡ exits ++ exit ∷ [] → exit.before ≡ old.ways
      → AreCounted behind old → CountsUpTo new.ways (length (ways_by behind (exits ++ exit ∷ []))) → AreCounted behind new
  counted_more were are first own count = grind (arith, get_last)

-- a sum that stops at the largest number counts as many as both do
pub counts_sum : {a b s : ℕ} (m n : ℕ) → s ≡ min (a + b) (2 ^ 64 - 1) → CountsUpTo a m → CountsUpTo b n → CountsUpTo s (m + n)
counts_sum m n is one other = grind arith

-- one more exit of a ring
module _ (catalogue : List FileEntry) (command : Instruction) (commands : List Instruction) (behind : List (List KeptWays))
    (before : List Stage) (s : Stage) (lines more : List (List ℕ)) (old : KeptWays)
    (kept : (l : List ℕ) → Contains lines l → Contains more l) (ways : AreWaysBy catalogue command commands behind before lines old) where
  abbrev own : List (List (List ℕ))
  own = ways_by behind old.exits.items

  -- where its ways are left out
  pub ways_stay : AreWaysBy catalogue command commands behind (before ++ s ∷ []) more (record old { are_all = false })
  ways_stay = record {
    each = ways.each;
    once = ways.once;
    first = λ line way inside. kept line (ways.first line way inside);
    all = λ yes. absurd (let e : false ≡ true = yes in cc);
    counted = record { ways = ways.counted.ways; before = ways.counted.before };
  }

  -- where they are added
  module _ (new later : KeptWays) (exit : KeptExit) (same : ring_with_slots catalogue new.ring ≡ ring_with_slots catalogue old.ring)
      (items : new.exits.items ≡ old.exits.items ++ exit ∷ []) (line_is : string_bytes exit.line ≡ s.printed) (first_is : exit.before ≡ old.ways)
      (sum : new.ways ≡ min (old.ways + later.ways) (2 ^ 64 - 1))
      (leads : MayLeadTo true (bare catalogue old.ring) command s)
      (rest : AreWays s.ring commands later.are_all (ways_at behind exit.number))
      (count : CountsUpTo later.ways (length (ways_at behind exit.number)))
      (is_new : Contains lines s.printed → ⊥) (added : Contains more s.printed)
      (all : IsTrue new.are_all → IsTrue old.are_all × IsTrue later.are_all) where
    abbrev others : List (List (List ℕ))
    others = ways_at behind exit.number

    abbrev those : List (List (List ℕ))
    those = ways_after s.printed others

    here_is : ways_by behind (old.exits.items ++ exit ∷ []) ≡ own ++ those
    here_is = ways_of_more behind old.exits.items exit ∙ ap (λ (l : List ℕ). own ++ ways_after l others) line_is

    new_is : ways_by behind new.exits.items ≡ own ++ those
    new_is = ap (ways_by behind) items ∙ here_is

    -- a way of the ring is an old one, or one of these
    either : {way : List (List ℕ)} → Contains (ways_by behind new.exits.items) way → Contains own way ⊎ Contains those way
    either {way} inside = Contains-append_cases own those way (subst (λ (l : List (List (List ℕ))). Contains l way) new_is inside)

    parts_of : (way : List (List ℕ)) → Contains those way → (other : List (List ℕ)) × Contains others other × (way ≡ s.printed ∷ other)
    parts_of way inside = contains_map (λ (w : List (List ℕ)). s.printed ∷ w) others way inside

    goes : (way : List (List ℕ)) → Contains those way → (ring : RingContents) → ring_of ring ≡ ring_with_slots catalogue old.ring
        → GoesBy ring (command ∷ commands) way
    goes way inside ring at = grind (arith, parts_of way inside, s.printed)

    apart : (way : List (List ℕ)) → Contains own way → Contains those way → ⊥
    apart way here inside =
        let (other, has, is) = parts_of way inside in is_new (ways.first s.printed other (subst (Contains own) is here))

    first_of : (line : List ℕ) (way : List (List ℕ)) → Contains those (line ∷ way) → Contains more line
    first_of line way inside = grind (arith, parts_of (line ∷ way) inside, s.printed)

    of_stage : IsTrue later.are_all → (t : Stage) → s ≡ t → (ring : RingContents) (way : List (List ℕ)) → ring_of ring ≡ t.ring
        → GoesBy ring commands way → Contains (own ++ those) (t.printed ∷ way)
    of_stage all_there t is ring way at by =
        let has : Contains those (s.printed ∷ way) = contains_mapped (λ (w : List (List ℕ)). s.printed ∷ w) others way
        (rest.all all_there ring way (at ∙ ap (λ (u : Stage). u.ring) (sym is)) by) in
        Contains-append_right own those (t.printed ∷ way) (subst (λ (u : Stage). Contains those (u.printed ∷ way)) is has)

    counted : AreCounted behind new
    counted = counted_more behind old.exits.items exit refl items first_is ways.counted (rw (here_is, length-append own those)
        (counts_sum (length own) (length those) sum ways.counted.ways
        (subst (CountsUpTo later.ways) (sym (length-map others (λ (w : List (List ℕ)). s.printed ∷ w))) count)))

    pub ways_more : AreWaysBy catalogue command commands behind (before ++ s ∷ []) more new
    ways_more = record {
      each = λ way inside ring at.
          let at_old = at ∙ same in ⊎_elim (λ here. ways.each way here ring at_old) (λ has. goes way has ring at_old) (either inside);
      once = grind (arith, new_is, distinct_behind, apart, distinct_append own those ways.once (distinct_behind s.printed others rest.once) apart);
      first = λ line way inside. ⊎_elim (λ here. kept line (ways.first line way here)) (first_of line way) (either inside);
      all = λ yes t inside ring way at by.
          let both = all yes in
          subst (λ (l : List (List (List ℕ))). Contains l (t.printed ∷ way)) (sym new_is)
          (⊎_elim (λ here. Contains-append_left own those (t.printed ∷ way) (ways.all both.0 t here ring way at by))
          (λ is. of_stage both.1 t is ring way at by) (Contains-push_cases before s t inside));
      counted = counted;
    }

pub no_ways : (catalogue : List FileEntry) (command : Instruction) (commands : List Instruction) (behind : List (List KeptWays))
    (lines : List (List ℕ)) (rest : KeptWays) → rest.ways ≡ 0 → rest.exits.items ≡ [] → AreWaysBy catalogue command commands behind [] lines rest
no_ways catalogue command commands behind lines rest none empty = grind (arith, contains_none)

-- all exits of a ring
pub rest_of_exits : (catalogue : List FileEntry) (command : Instruction) (commands : List Instruction) (behind : List (List KeptWays))
    (exits : Exits) {lines : List (List ℕ)} {rest : KeptWays} → ring_with_slots catalogue rest.ring ≡ ring_with_slots catalogue exits.ring
    → (IsTrue rest.are_all → IsTrue exits.are_all) → AreExits catalogue command exits
    → AreWaysBy catalogue command commands behind (stages_of catalogue exits.to.items) lines rest → IsRest catalogue (command ∷ commands) behind rest
rest_of_exits catalogue command commands behind exits {rest = rest} same whole are by = record {
  are = record {
    each = by.each;
    once = by.once;
    all = λ yes ring way at by_lines.
        let (next, line, others, leads, is, goes) = by_lines in
        let stands : ring_of ring ≡ ring_with_slots catalogue exits.ring = at ∙ same in
        let inside = are.all (whole yes) ring next line stands leads in
        rw is (by.all yes (stage true next line) inside next others refl goes);
  };
  counted = by.counted;
}

-- the end of the script
pub rest_of_end : (catalogue : List FileEntry) (rest : KeptWays) (exit : KeptExit) (state : RingState)
    → ring_with_slots catalogue rest.ring ≡ state → rest.exits.items ≡ exit ∷ [] → exit.before ≡ 0 → rest.ways ≡ 1
    → PrintsEnd state (string_bytes exit.line) → ((other : List ℕ) → PrintsEnd state other → other ≡ string_bytes exit.line)
    → IsRest catalogue [] [] rest
rest_of_end catalogue rest exit state same is first one prints only = record {
  are = record {
    each = λ way inside ring at. grind (arith, contains_only);
    once = rw is (contains_none (string_bytes exit.line ∷ []), tt);
    all = λ yes ring way at by_end.
        let (other, ends, own) = by_end in
        let ends_there = subst (λ (r : RingState). PrintsEnd r other) (at ∙ same) ends in
        rw (is, own, only other ends_there) (contains_head (string_bytes exit.line ∷ []) []);
  };
  counted = grind (arith, get_last);
}

-- what is kept of the ring of a number
pub kept_at : (catalogue : List FileEntry) (commands : List Instruction) (behind : List (List KeptWays)) (rests : List KeptWays) (number : ℕ)
    {rest : KeptWays} → slice_get rests number ≡ Some rest → All (IsRest catalogue commands behind) rests
    → AreWaysOf catalogue commands rest.ring (ways_at (rests ∷ behind) number) rest
kept_at catalogue commands behind rests number there are = grind (arith, All-contains, gotten)

-- that of the first ring of a script
pub first_there : (rests : List (Vec KeptWays)) (own : Vec KeptWays) (ring : RingSlots) → slice_get rests 0 ≡ Some own
    → ((catalogue : List FileEntry) → ring_with_slots catalogue ring ≡ new_ring catalogue) → (found : Option (Bor KeptWays))
    → IfSome found (λ rest. slice_get own.items 0 ≡ Some rest.now)
    → IfSome found (λ rest. (catalogue : List FileEntry) → ring_with_slots catalogue rest.now.ring ≡ ring_with_slots catalogue ring)
    → IfSome found (λ rest. (catalogue : List FileEntry) (commands : List Instruction) → AreRests catalogue commands (rests_in rests)
    → AreWays (new_ring catalogue) commands rest.now.are_all (ways_at (rests_in rests) 0)
    × CountsUpTo rest.now.ways (length (ways_at (rests_in rests) 0)))
first_there [] own ring at new found there same = absurd (let none : None ≡ Some own = at in cc)
first_there (first ∷ behind) own ring at new None there same = tt
first_there (first ∷ behind) own ring at new (Some rest) there same = λ catalogue commands are.
    let is : own ≡ first = cc in
    let here = subst (λ (o : Vec KeptWays). slice_get o.items 0 ≡ Some rest.now) is there in
    let kept = kept_at catalogue commands (rests_in behind) first.items 0 here are.0 in
    let new_is = same catalogue ∙ new catalogue in
    (subst (λ (r : RingState). AreWays r commands rest.now.are_all (ways_at (first.items ∷ rests_in behind) 0)) new_is kept.0, kept.1)

-- a way of that ring, by its number
pub way_from : (behind : List (List KeptWays)) (rests : List KeptWays) (number : ℕ) (rest : KeptWays) (k : ℕ) (exit : KeptExit) (way : ℕ)
    (later : List (List ℕ)) → slice_get rests number ≡ Some rest → slice_get rest.exits.items k ≡ Some exit → exit.before ≤ way → way < 2 ^ 64 - 1
    → All (AreCounted behind) rests → slice_get (ways_at behind exit.number) (way - exit.before) ≡ Some later
    → slice_get (ways_at (rests ∷ behind) number) way ≡ Some (string_bytes exit.line ∷ later)
way_from behind rests number rest k exit way later there is low few are at =
    let f = λ (e : KeptExit). ways_after (string_bytes e.line) (ways_at behind e.number) in
    let own = All-contains (AreCounted behind) rests rest are (gotten rests number there) in
    let exact : exit.before ≡ length (flat_map f (take k rest.exits.items)) = (own.before k exit is).same (omega (arith, low, few)) in
    let split : way ≡ length (flat_map f (take k rest.exits.items)) + (way - exit.before) = omega (arith, exact, low) in
    let after : slice_get (f exit) (way - exit.before) ≡ Some (string_bytes exit.line ∷ later) =
    slice_get-map (λ (w : List (List ℕ)). string_bytes exit.line ∷ w) (ways_at behind exit.number) (way - exit.before)
    ∙ ap (option_map (λ (w : List (List ℕ)). string_bytes exit.line ∷ w)) at in
    grind (arith, exit.line, rest.exits.items, get_from f rest.exits.items k exit (way - exit.before) (string_bytes exit.line ∷ later) is after)

-- the rests of a layer, before others
pub rests_counted : (catalogue : List FileEntry) (commands : List Instruction) (rests : List (List KeptWays)) → AreRests catalogue commands rests
    → AreAllCounted rests
rests_counted catalogue commands rests are = grind (arith, All-weaker)

-- the ways of a script are those of its first ring
module _ (script : Meaning) {ways : List (List (List ℕ))} {are_all : Bool}
    (are : AreWays (new_ring script.catalogue) script.commands are_all ways) where
  is_way : (way : List (List ℕ)) → Contains ways way → IsWay script way
  is_way way inside = let (start, new) = starts script.catalogue in (start, new, are.each way inside start new)

  pub script_ways : (are_counted : Bool) (count : ℕ) → CountsUpTo count (length ways)
      → (IsTrue are_counted → IsTrue are_all × (count < 2 ^ 64 - 1)) → HasWays script are_counted count
  script_ways are_counted count counts both = grind (arith, is_way)

  pub script_text : (text : List ℕ) → Contains (map concat ways) text → IsTextFound script text
  script_text text inside =
      let (way, has, is) = contains_map concat ways text inside in grind (arith, text_of_way, is_way way has)

  pub script_texts : IsTrue are_all → (text : List ℕ) → IsTextFound script text → Contains (map concat ways) text
  script_texts all text (reports, (ring, new, prints)) =
      let (way, goes, is) = way_of_text ring script.commands text reports prints in
      subst (Contains (map concat ways)) (sym is) (contains_mapped concat ways way (are.all all ring way new goes))

-- a script of which no way is known
pub no_script_ways : (script : Meaning) → HasWays script false 0
no_script_ways script = grind (arith, contains_none)

-- a text that is new in a set isn't among its keys
pub new_text : (keys : List (String Global)) (k : String Global) {added : Bool} → added ≡ not (list_any (string_eq k) keys) → added ≡ true
    → Contains (map string_bytes keys) (string_bytes k) → ⊥
new_text keys k is new inside =
    let (x, (i, low, here), same) = contains_map string_bytes keys (string_bytes k) inside in
    let equal = (bytes_decides (string_bytes k) (string_bytes x)).1 same in
    true≢false (sym new ∙ is ∙ ap not (list_any_at (string_eq k) keys i x low (rw here equal)))

-- what is new in a list that began as empty
pub only_new : {X : Type 0} {P : X → Type 0} {new : List X} → Grows P [] new → (x : X) → Contains new x → P x
only_new grows x inside = ⊎_elim (λ none. absurd (contains_none x none)) (λ is. is) (grows.from x inside)

-- the exits of a ring, where what was printed before is nothing
pub exits_are : (catalogue : List FileEntry) (command : Instruction) (keeps : Bool) (from : Stage) (exits : Exits) → keeps ≡ true → IsBare from
    → ring_with_slots catalogue exits.ring ≡ from.ring
    → ((s : Stage) → Contains (stages_of catalogue exits.to.items) s → MayLeadTo keeps from command s)
    → (IsTrue exits.are_all → HasEachNextStage keeps from command (stages_of catalogue exits.to.items)) → AreExits catalogue command exits
exits_are catalogue command keeps from exits told is same each all =
    let stands : from ≡ bare catalogue exits.ring = λ i. record { ring = sym same i; printed = is.1 i } in
    record {
      each = λ s inside. subst (λ (o : Stage). MayLeadTo true o command s) stands
          (subst (λ (k : Bool). MayLeadTo k from command s) told (each s inside));
      all = λ yes. subst (λ (o : Stage). HasEachNextStage true o command (stages_of catalogue exits.to.items)) stands
          (subst (λ (k : Bool). HasEachNextStage k from command (stages_of catalogue exits.to.items)) told (all yes));
    }

-- the ways of an exit's ring, where what is kept of it is found
pub rest_there : (catalogue : List FileEntry) (commands : List Instruction) (behind : List (List KeptWays)) (later : List KeptWays) (number : ℕ)
    (ring : RingSlots) → All (IsRest catalogue commands behind) later → (found : Option (Bor KeptWays))
    → IfSome found (λ rest. slice_get later number ≡ Some rest.now)
    → IfSome found (λ rest. (catalogue : List FileEntry) → ring_with_slots catalogue rest.now.ring ≡ ring_with_slots catalogue ring)
    → IfSome found (λ rest. AreWaysOf catalogue commands ring (ways_at (later ∷ behind) number) rest.now)
rest_there catalogue commands behind later number ring are None there same = tt
rest_there catalogue commands behind later number ring are (Some rest) there same =
    let own = kept_at catalogue commands behind later number there are in
    (subst (λ (r : RingState). AreWays r commands rest.now.are_all (ways_at (later ∷ behind) number)) (same catalogue) own.0, own.1)

-- the list of the first ring alone
pub bare_start : (catalogue : List FileEntry) → AreBare (record { ring = new_ring catalogue; printed = [] } ∷ [])
bare_start catalogue s inside = grind (arith, contains_only, none_rings)

-- the commands of layers, and one more
pub commands_more : (layers : List Layer) (layer : Layer) {commands : List Instruction} → commands_in layers ≡ commands
    → commands_in (layers ++ layer ∷ []) ≡ commands ++ instruction_of layer.command.now ∷ []
commands_more layers layer same =
    map-append (λ (l : Layer). instruction_of l.command.now) layers (layer ∷ [])
    ∙ ap (λ (cs : List Instruction). cs ++ instruction_of layer.command.now ∷ []) same

-- the last of some layers
module _ (layers : List Layer) (layer : Layer) {all : List Layer} (is : all ≡ layers ++ layer ∷ []) where
  pub commands_before : (done commands : List Instruction) → commands_in all ++ done ≡ commands
      → commands_in layers ++ instruction_of layer.command.now ∷ done ≡ commands
  commands_before done commands same =
      sym (append_assoc (commands_in layers) (instruction_of layer.command.now ∷ []) done)
      ∙ (ap (λ (cs : List Instruction). cs ++ done) (sym (ap commands_in is ∙ commands_more layers layer refl)) ∙ same)
