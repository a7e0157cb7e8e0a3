-- Texts that are cut at a byte, and the bytes of a read.
use Rattle.check_lines.proofs.Words.{◌≡◌, ℕ, ◌+◌, ◌<◌, List, length, drop, sym, ap, ◌∙◌, slice_index_or, Ok, drop_more, ◌∷◌, Bool, list_all, ne_eqb}
use Rattle.check_lines.proofs.Words.{◌==◌, true, false, not, [], ◌++◌, get_or, refl, arith, nat_tests, and_from, and_parts, is_without, true≢false}
use Rattle.check_lines.proofs.Words.{IsBytes, encode_lower, got_text, IsCut, take, take-append-drop, Err, decode_of, is_hex_digit}
use Rattle.std.proofs.lemmas.List.Sums.{list_all-from_AllPass}
use Rattle.hex.specs.Hex.{encode_with}
use Rattle.hex.specs.declared.error.FromHexError.{FromHexError}
use Rattle.hex.proofs.HexLemmas.{decode_of-encode_lower, decode_of-ok}

pub from_here : {X : Type 0} (xs : List X) (i : ℕ) (x : X) → i < length xs → x ≡ slice_index_or xs i x → drop i xs ≡ x ∷ drop (i + 1) xs
from_here {X} xs i x inside is = drop_more xs i x inside ∙ ap (λ (y : X). y ∷ drop (i + 1) xs) (sym is)

-- A text without a byte, and a text that is cut at one.

-- a byte isn't another than itself
not_self : (at x : ℕ) → at ≡ x → not (x == at) ≡ true → ⊥
not_self at x same other = grind (arith, nat_tests)

-- a text of bytes that pass a test doesn't have a byte that fails it
pub without_failing : (test : ℕ → Bool) (at : ℕ) → test at ≡ false → (bs : List ℕ) → list_all test bs ≡ true → is_without at bs ≡ true
without_failing test at fails [] all = refl
without_failing test at fails (b ∷ bs) all =
    let other = ne_eqb b at (λ same. true≢false (sym (and_parts (test b) (list_all test bs) all).0 ∙ ap test same ∙ fails)) in
    and_from (not (b == at)) (is_without at bs) (ap not other) (without_failing test at fails bs (and_parts (test b) (list_all test bs) all).1)

-- a text that is cut at a byte has it
pub cut_has : (at : ℕ) (before after : List ℕ) → is_without at (before ++ at ∷ after) ≡ true → ⊥
cut_has at [] after all = not_self at at refl (and_parts _ _ all).0
cut_has at (x ∷ before) after all = cut_has at before after (and_parts _ _ all).1

-- a text is cut at the first such byte, or at its end, in one way
pub cut_once : (at : ℕ) (before after front behind : List ℕ) → is_without at before ≡ true → is_without at front ≡ true → get_or after 0 at ≡ at
    → get_or behind 0 at ≡ at → before ++ after ≡ front ++ behind → (before ≡ front) × (after ≡ behind)
cut_once at [] after [] behind own other here there same = (refl, same)
cut_once at [] after (x ∷ front) behind own other here there same =
    absurd (not_self at x (sym here ∙ ap (λ (t : List ℕ). get_or t 0 at) same) (and_parts _ _ other).0)
cut_once at (x ∷ before) after [] behind own other here there same =
    absurd (not_self at x (sym there ∙ sym (ap (λ (t : List ℕ). get_or t 0 at) same)) (and_parts _ _ own).0)
cut_once at (x ∷ before) after (y ∷ front) behind own other here there same =
    let first : x ≡ y = cc in let others : before ++ after ≡ front ++ behind = cc in
    let more = cut_once at before after front behind (and_parts _ _ own).1 (and_parts _ _ other).1 here there others in
    let same_front : before ≡ front = more.0 in (cc, more.1)

-- the place at which a text is cut
pub cut_here : (at : ℕ) (text : List ℕ) (i : ℕ) → i < length text → get_or text i 0 ≡ at → is_without at (take i text) ≡ true
    → IsCut at text (take i text) (drop i text)
cut_here at text i inside here before = record {
  without = before;
  begins = ap (λ (t : List ℕ). get_or t 0 at) (drop_more text i 0 inside) ∙ here;
  split = sym (take-append-drop i text);
}

-- the parts of a text that is cut are these
pub parts_are : {at : ℕ} {text front behind : List ℕ} → IsCut at text front behind → (before after : List ℕ) → is_without at before ≡ true
    → get_or after 0 at ≡ at → text ≡ before ++ after → (before ≡ front) × (after ≡ behind)
parts_are cut before after none here same = grind (arith, cut_once)

-- The bytes of a read, as they are printed.

pub bytes_fit : (word : List ℕ) {bytes : List ℕ} → decode_of word ≡ Ok bytes → IsBytes bytes
bytes_fit word {bytes} decodes = let (even, digits, long, fits) = decode_of-ok word bytes decodes in fits

pub same_bytes : {word bytes other : List ℕ} → decode_of word ≡ Ok bytes → IsBytes other → word ≡ encode_lower other → other ≡ bytes
same_bytes {other} decodes fits same = let good = decode_of-encode_lower other fits in let here = ap decode_of same in cc

pub none_other : {word : List ℕ} {e : FromHexError} (other : List ℕ) → decode_of word ≡ Err e → IsBytes other → word ≡ encode_lower other → ⊥
none_other other fails fits same = let good = decode_of-encode_lower other fits in cc (ap decode_of same)

some_got : (b : ℕ) (got : List ℕ) → got_text (b ∷ got) ≡ 32 ∷ encode_lower (b ∷ got)
some_got b got = rw (ne_eqb (length (b ∷ got)) 0 (λ none. omega arith))

pub got_behind : (got : List ℕ) → drop 1 (got_text got) ≡ encode_lower got
unfolding encode_with
got_behind [] = refl
got_behind (b ∷ got) = ap (drop 1) (some_got b got)

pub got_begins : (got : List ℕ) → get_or (got_text got) 0 32 ≡ 32
got_begins got = grind (arith, some_got)

-- they have no line end
pub got_without : (got : List ℕ) → IsBytes got → is_without 10 (got_text got) ≡ true
got_without [] fits = refl
got_without (b ∷ got) fits =
    let word = encode_lower (b ∷ got) in let (even, digits, long, same) = decode_of-ok word (b ∷ got) (decode_of-encode_lower (b ∷ got) fits) in
    ap (is_without 10) (some_got b got) ∙ without_failing is_hex_digit 10 refl word (list_all-from_AllPass is_hex_digit word digits)
