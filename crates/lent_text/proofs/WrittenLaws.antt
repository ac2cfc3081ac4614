-- Codes written after codes.
use Rattle.std.proofs.Common.{◌≡◌, ℕ, ◌+◌, List, [], ◌++◌, length, map, sym, ap, ◌∙◌, arith}
use Rattle.std.proofs.lemmas.List.{length-append, length-map, map-append}
use lib.Seq.{sets}
use Rattle.model.specs.declared.Code.{Code}
use Rattle.model.specs.Selection.{kind_of, operand_of}
use Rattle.model.proofs.SetsLaws.{sets-append}
use Rattle.lent_text.specs.declared.codes.Codes.{Codes}
use Rattle.lent_text.specs.Written.{Written}

pub written-none : {s e : Codes} → e ≡ s → Written [] s e
written-none {s = s} q = record {
  counted = ap (λ (x : Codes). x.count) q ∙ omega arith;
  kinds = λ _. ap (λ (x : Codes). x.kinds) q;
  operands = λ _. ap (λ (x : Codes). x.operands) q;
}

-- one of a code's two numbers
stored : (f : Code → ℕ) (cs ds : List Code) (l l' l'' : List ℕ) (n m : ℕ) → m ≡ n + length cs → l' ≡ sets l n (map f cs) → l'' ≡ sets l' m (map f ds)
    → l'' ≡ sets l n (map f (cs ++ ds))
stored f cs ds l l' l'' n m e a b =
    let at : m ≡ n + length (map f cs) = e ∙ ap (λ k. n + k) (sym (length-map cs f)) in
    b ∙ ap (λ k. sets l' k (map f ds)) at ∙ ap (λ k. sets k (n + length (map f cs)) (map f ds)) a
    ∙ sym (sets-append l n (map f cs) (map f ds)) ∙ ap (sets l n) (sym (map-append f cs ds))

pub written-append : {cs ds : List Code} {s m e : Codes} → Written cs s m → Written ds m e → Written (cs ++ ds) s e
written-append {cs} {ds} {s} {m} {e} a b = record {
  counted = omega (arith, a.counted, b.counted, length-append cs ds);
  kinds = λ h. stored kind_of cs ds s.kinds m.kinds e.kinds s.count m.count a.counted (a.kinds (omega (arith, b.counted))) (b.kinds h);
  operands = λ h. stored operand_of cs ds s.operands m.operands e.operands s.count m.count a.counted (a.operands (omega (arith, b.counted))) (b.operands h);
}
