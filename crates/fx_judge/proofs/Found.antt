-- The texts that were found, as they are written.
use Rattle.fx_judge.proofs.{◌≡◌, ℕ, Bool, true, false, arith, IsTrue, List, [], ◌∷◌, All, Contains, length, map, take, ap, ◌∙◌, string_bytes}
use Rattle.fx_judge.proofs.{string_eq, String, Global, AllByRecursion, length-map, All-map, IsScript, Meaning, joined, lengths_in, ◌++◌, concat}
use Rattle.fx_judge.proofs.{map-append, append-nil, AreOutcomes, AreWritten, IsTextList, same_bytes}
use Rattle.std.specs.List.{IsDistinct}
use Rattle.check_texts.specs.Texts.{IsTextFound}
use Rattle.fx_judge.specs.declared.codes.TheConstants.{ALL, SOME}
use Rattle.fx_judge.specs.declared.outcomes.YachtTexts.{YachtTexts}
use Rattle.std.proofs.lemmas.List.Folds.{concat-append}

module _ {A : Type 0} (f : A → List ℕ) (front : List A) (x : A) where
  pub joined_more : joined (map f (front ++ x ∷ [])) ≡ joined (map f front) ++ f x
  joined_more = ap concat (map-append f front (x ∷ [])) ∙ (concat-append (map f front) (f x ∷ []) ∙ ap (λ (l : List ℕ). concat (map f front) ++ l) (append-nil (f x)))

  pub lengths_more : lengths_in (map f (front ++ x ∷ [])) ≡ lengths_in (map f front) ++ length (f x) ∷ []
  lengths_more = ap lengths_in (map-append f front (x ∷ [])) ∙ map-append length (map f front) (f x ∷ [])

each_of_map : (P : List ℕ → Type 0) (xs : List (String Global)) → AllByRecursion (λ x. P (string_bytes x)) xs
    → AllByRecursion P (map string_bytes xs)
each_of_map P [] all = all
each_of_map P (x ∷ xs) (here, later) = (here, each_of_map P xs later)

distinct_bytes : (xs : List (String Global)) → IsDistinct string_eq xs → IsDistinct same_bytes (map string_bytes xs)
unfolding IsDistinct
distinct_bytes [] once = once
distinct_bytes (x ∷ xs) (others, once) = (each_of_map (λ b. same_bytes (string_bytes x) b ≡ false) xs others, distinct_bytes xs once)

module _ (xs : List (String Global)) (told : YachtTexts) (texts lens : List ℕ) where
  written : {bytes counts : List ℕ} → bytes ≡ joined (map string_bytes xs) → counts ≡ lengths_in (map string_bytes xs)
      → told.bytes ≡ length bytes → told.count ≡ length counts → take (length bytes) texts ≡ bytes → take (length counts) lens ≡ counts
      → AreWritten (map string_bytes xs) told texts lens
  written is are bytes_told count_told front others = record {
    count = count_told ∙ (ap length are ∙ length-map (map string_bytes xs) length);
    bytes = bytes_told ∙ ap length is;
    joined_texts = ap (λ n. take n texts) bytes_told ∙ (front ∙ is);
    each_length = ap (λ n. take n lens) count_told ∙ (others ∙ are);
  }

  module _ {script : List ℕ} {meaning : Meaning} (read : IsScript script meaning) (each : All (λ x. IsTextFound meaning (string_bytes x)) xs) (once : IsDistinct string_eq xs)
      {bytes counts : List ℕ} (is : bytes ≡ joined (map string_bytes xs)) (are : counts ≡ lengths_in (map string_bytes xs)) (bytes_told : told.bytes ≡ length bytes)
      (count_told : told.count ≡ length counts) (front : take (length bytes) texts ≡ bytes) (others : take (length counts) lens ≡ counts) where
    outcomes : (are_all : Bool) → (IsTrue are_all → (text : List ℕ) → IsTextFound meaning text → Contains (map string_bytes xs) text) → AreOutcomes script are_all told texts lens
    outcomes are_all all = record {
      meaning = meaning;
      read = read;
      found = map string_bytes xs;
      written = written is are bytes_told count_told front others;
      each = All-map (IsTextFound meaning) string_bytes xs each;
      once = distinct_bytes xs once;
      all = all;
    }

    -- all texts are written, or some
    pub all_listed : ((text : List ℕ) → IsTextFound meaning text → Contains (map string_bytes xs) text) → IsTextList script ALL told texts lens
    all_listed all = record { known = omega arith; all = λ _. outcomes true (λ _. all); some = λ bad. absurd (omega (arith, bad)); bad_script = λ bad. absurd (omega (arith, bad)) }

    pub some_listed : IsTextList script SOME told texts lens
    some_listed = record {
      known = omega arith;
      all = λ bad. absurd (omega (arith, bad));
      some = λ _. outcomes false (λ so. let bad : false ≡ true = so in cc bad);
      bad_script = λ bad. absurd (omega (arith, bad));
    }
