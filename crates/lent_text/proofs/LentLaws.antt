-- What is left of a text after a position, at the front of an array of zeros.
use Rattle.std.proofs.Common.{◌≡◌, ℕ, ◌-◌, min, List, ◌++◌, length, take, drop, sym, ap, ◌∙◌, arith, zero-add}
use Rattle.std.proofs.lemmas.List.{take_all, take_min, drop_min}
use lib.ListN.{replicate, length-drop, length-take, length-replicate}
use lib.Seq.{sets, sets-eq}
use Rattle.model.specs.Limits.{max_text}
use Rattle.lent_text.specs.Copied.{copied}

pub copied_front : (t : List ℕ) (at k n : ℕ) → k ≡ min at (length t) → n ≡ min max_text (length (take (length t - k) (drop k t)))
    → take n (take (length t - k) (drop k t)) ++ drop n (replicate max_text 0) ≡ copied (drop at t)
unfolding copied
copied_front t at k n e f =
    let zeros : List ℕ = replicate max_text 0 in
    let rest : take (length t - k) (drop k t) ≡ drop at t = take_all (length t - k) (drop k t) (omega (arith, length-drop k t)) ∙ ap (λ m. drop m t) e ∙ drop_min at t in
    let size : n ≡ min max_text (length (drop at t)) = f ∙ ap (λ r. min max_text (length r)) rest in
    let front : take n (drop at t) ≡ take max_text (drop at t) = ap (λ m. take m (drop at t)) size ∙ take_min max_text (drop at t) in
    let long : length (take n (drop at t)) ≡ n = length-take n (drop at t) ∙ omega (arith, size) in
    let put : sets zeros 0 (take n (drop at t)) ≡ take n (drop at t) ++ drop (length (take n (drop at t))) zeros
    = sets-eq (take n (drop at t)) zeros 0 (omega (arith, long, size, length-replicate {A = ℕ} max_text 0)) ∙ ap (λ m. take n (drop at t) ++ drop m zeros) (zero-add (length (take n (drop at t)))) in
    ap (λ r. take n r ++ drop n zeros) rest ∙ ap (λ m. take n (drop at t) ++ drop m zeros) (sym long) ∙ sym put ∙ ap (sets zeros 0) front
