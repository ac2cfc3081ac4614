-- What is put in parts, one after the other, is the text that the parts make.
use Prim.Native.Nat.{ℕ, ◌/◌, ◌%◌, ◌≤◌, ◌<◌}
use mathlib.Core.Path.{◌≡◌, sym, ap, ap₂, subst}
use mathlib.Core.Bool.{Bool, cond}
use mathlib.Core.List.{List, [], ◌∷◌, ◌++◌}
use Rattle.model.specs.Bytes.{bytes}
use Rattle.store.specs.Put.{Put}
use Rattle.store.proofs.PutLaws.{put-append}
use Rattle.model.specs.Matches.{Str}
use Rattle.text.specs.Printed.{digit, decimal, sort_mark, span_text, contiguous_mark, query_text, string_text, head_text, answer_text}
use Rattle.text.proofs.PrintedLaws.{decimal-small, decimal-more}

-- ---- a number

pub put_small : {a b : List ℕ} {at next : ℕ} (n : ℕ) → n < 10 → Put a b at (digit n ∷ []) next → Put a b at (decimal n) next
put_small {a} {b} {at} {next} n h v = subst (λ xs. Put a b at xs next) (sym (decimal-small n h)) v

pub put-more : {a b c : List ℕ} {at last next : ℕ} (n : ℕ) → 10 ≤ n → Put a b at (decimal (n / 10)) last → Put b c last (digit (n % 10) ∷ []) next
    → Put a c at (decimal n) next
put-more {a} {c = c} {at} {next = next} n h v w = subst (λ xs. Put a c at xs next) (sym (decimal-more n h)) (put-append v w)

-- ---- a string and the first line

-- the numbers and marks that the code puts are those of the text
pub put-span : {a b c d : List ℕ} {at dash second next start end : ℕ} (s e : ℕ) → start ≡ s → end ≡ e
    → Put a b at (decimal start) dash → Put b c dash (bytes "-") second → Put c d second (decimal end) next → Put a d at (span_text s e) next
unfolding span_text
put-span {a} {d = d} {at} {next = next} s e f g v w x = subst (λ xs. Put a d at xs next) (ap₂ span_text f g) (put-append (put-append v w) x)

pub put-query : {a b c d e : List ℕ} {at number blank mark next query letter : ℕ} (q : ℕ) (contiguous : Bool) → query ≡ q → letter ≡ contiguous_mark contiguous
    → Put a b at (bytes " q") number → Put b c number (decimal query) blank → Put c d blank (bytes " ") mark → Put d e mark (letter ∷ []) next
    → Put a e at (query_text q contiguous) next
unfolding query_text
put-query {a} {e = e} {at} {next = next} q contiguous f g v w x y =
    subst (λ xs. Put a e at xs next) (ap₂ (λ n l. bytes " q" ++ decimal n ++ bytes " " ++ l ∷ []) f g) (put-append (put-append (put-append v w) x) y)

pub put-string : {a b c d : List ℕ} {at first query next mark : ℕ} (sort : ℕ) (s : Str) → mark ≡ sort_mark sort
    → Put a b at (mark ∷ []) first → Put b c first (span_text s.start s.end) query → Put c d query (query_text s.query s.contiguous) next
    → Put a d at (string_text sort s) next
unfolding string_text
put-string {a} {d = d} {at} {next = next} sort s e v w x =
    subst (λ xs. Put a d at xs next) (ap (λ m. m ∷ [] ++ span_text s.start s.end ++ query_text s.query s.contiguous) e) (put-append (put-append v w) x)

pub put_head : {a b c d e f : List ℕ} {at first blank second end next : ℕ} {word : List ℕ} (x y : ℕ) → Put a b at word first → Put b c first (decimal x) blank
    → Put c d blank (bytes " ") second → Put d e second (decimal y) end → Put e f end (bytes "\n") next → Put a f at (head_text word x y) next
unfolding head_text
put_head m n v w x y z = put-append (put-append (put-append (put-append v w) x) y) z

answer-is : (said : Bool) {t : Bool} (matches strs : ℕ) → said ≡ t → answer_text said matches strs ≡ head_text (cond t (bytes "yes ") (bytes "no ")) matches strs
unfolding answer_text
answer-is said matches strs e = ap (λ t. head_text (cond t (bytes "yes ") (bytes "no ")) matches strs) e

pub put-answer : {a b : List ℕ} {at next : ℕ} (said : Bool) {t : Bool} (matches strs : ℕ) → said ≡ t → Put a b at (head_text (cond t (bytes "yes ") (bytes "no ")) matches strs) next
    → Put a b at (answer_text said matches strs) next
put-answer {a} {b} {at} {next} said matches strs e v = subst (λ xs. Put a b at xs next) (sym (answer-is said matches strs e)) v
