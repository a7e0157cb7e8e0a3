-- Reading what C passes: the expected values, and the first refusal.
use Rattle.std.specs.Prelude.{◌≡◌, ℕ, ◌+◌, nat_le, List, [], ◌∷◌, ◌++◌, length, take, drop}
use Rattle.std.specs.Prelude.{Result, Ok, Err, if◌then◌else◌}
use Rattle.fx_judge.specs.declared.unread.LogRefusal.{LogRefusal}
use Rattle.fx_judge.specs.declared.unread.Unread.{Unread}
use Rattle.fx_judge.specs.declared.unread.Unread.TheVariants.{NoMemory, Refused}

-- the expected refusal, or an allocation failure
abbrev pub MeansRefusal : {B : Type 0} → Unread → Result B LogRefusal → Type 0
MeansRefusal (Refused why) expected = expected ≡ Err why
MeansRefusal NoMemory expected = Unit {0}

-- the result is the expected one, unless an allocation failed; `view` is what contracts see of the
-- code's value
abbrev pub ReadsOrFails : {A B : Type 0} → (A → B) → Result A Unread → Result B LogRefusal
    → Type 0
ReadsOrFails view (Ok x) expected = expected ≡ Ok (view x)
ReadsOrFails view (Err error) expected = MeansRefusal error expected

infixl 10 ◌>>>◌
-- the first refusal, or else the continuation
abbrev pub ◌>>>◌ : {A B : Type 0} → Result A LogRefusal → (A → Result B LogRefusal)
    → Result B LogRefusal
Ok x >>> f = f x
Err why >>> f = Err why

-- what items are read as, one after another, after those before them; each by `read`, which is
-- given what those before it are read as
abbrev pub all_after : {A B : Type 0} → (List B → A → Result B LogRefusal) → List B → List A
    → Result (List B) LogRefusal
all_after read before [] = Ok before
all_after read before (x ∷ items) =
    read before x >>> λ y. all_after read (before ++ y ∷ []) items

-- the items from `first` on, as many as `count`; `why` if there are fewer
abbrev pub part_passed : {A : Type 0} → List A → ℕ → ℕ → LogRefusal → Result (List A) LogRefusal
part_passed items first count why =
    if nat_le (first + count) (length items) then Ok (take count (drop first items)) else Err why
