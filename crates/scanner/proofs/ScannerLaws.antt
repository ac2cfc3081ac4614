-- Runs as fronts of a list, the number that digits write, and the first token.
use Rattle.std.proofs.Common.{◌≡◌, ℕ, ◌+◌, ◌*◌, ◌-◌, ◌<◌, ◌≤◌, suc, Bool, true, false, cond, List, [], ◌∷◌, eqb, refl, sym, ap, ◌∙◌, arith, length, take, drop, get_or, ◌⊎◌, inl, inr}
use mathlib.Core.Path.{ap₂}
use lib.ListN.{length-drop}
use lib.Seq.{drop-cons, get_or-drop, take_all}
use Rattle.std.specs.List.{prefix_len, fold, slice_range}
use Rattle.model.specs.Tokens.{blank, digit, letter, number_from}
use Rattle.grammar.specs.Stream.{ends, token, sort_of, makes_runs, run_length, stream_at, place_in, bytes_in, rest_of}
use Rattle.grammar.specs.Symbols.{symbol_in, symbol_of}
use Rattle.grammar.proofs.StreamLaws.{number-capped, run_more, run_stops, length_run, no_runs, runs_digit, runs_letter, at_blanks, at_end, at_sign, at_run}
use Rattle.scanner.specs.declared.symbols.Symbol.{Symbol}
use Rattle.scanner.specs.declared.symbols.Symbol.TheVariants.{NoMore}
use Rattle.scanner.specs.Symbols.{named}
use Rattle.scanner.specs.Scanned.{Scanned, capped, ceiling}

-- a run is the longest front of its sort
pub run-front : (sort : ℕ) (bs : List ℕ) → prefix_len (λ b. eqb (sort_of b) sort) bs ≡ run_length sort bs
unfolding run_length
run-front sort [] = refl
run-front sort (b ∷ bs) = at (eqb (sort_of b) sort) (run-front sort bs) where
  at : (t : Bool) → prefix_len (λ b. eqb (sort_of b) sort) bs ≡ run_length sort bs → cond t (1 + prefix_len (λ b. eqb (sort_of b) sort) bs) 0 ≡ cond t (suc (run_length sort bs)) 0
  at true e = omega (arith, e)
  at false e = refl

-- digit by digit, with the ceiling after each
pub value-folds : (v : ℕ) (bs : List ℕ) → v ≤ ceiling → fold (λ w b. capped (w * 10 + (b - digit))) v bs ≡ capped (number_from v bs)
unfolding number_from
value-folds v [] h = omega arith
value-folds v (b ∷ bs) h = value-folds (capped (v * 10 + (b - digit))) bs (omega arith) ∙ number-capped ceiling (v * 10 + (b - digit)) bs

-- ---- the first token

pub runs-either : (s : ℕ) → (s ≡ digit) ⊎ (s ≡ letter) → makes_runs s ≡ true
runs-either s (inl e) = ap makes_runs e ∙ runs_digit
runs-either s (inr e) = ap makes_runs e ∙ runs_letter

-- the bytes from a position on, as a part up to the end
pub part-rest : (text : List ℕ) (at : ℕ) → slice_range text at (length text) ≡ drop at text
part-rest text at = take_all (length text - at) (drop at text) (omega (arith, length-drop at text))

module _ (text : List ℕ) (at start : ℕ) (blanks : start ≡ at + run_length blank (drop at text)) (from : at ≤ start) where
  skipped : stream_at text at ≡ stream_at text start
  skipped = at_blanks text at ∙ ap (stream_at text) (sym blanks)

  pub scanned_end : start ≡ length text → Scanned text at (record { symbol = NoMore; start = start; end = start })
  unfolding named
  scanned_end e =
      let ended : stream_at text start ≡ ends (suc (length text)) = ap (stream_at text) e ∙ at_end text in
      let all : stream_at text at ≡ ends (suc (length text)) = skipped ∙ ended in
      let none : start - start ≡ 0 = omega arith in
      record {
        from = from;
        skipped = skipped;
        upto = omega arith;
        end_within = omega arith;
        some = λ f. absurd (f (ap symbol_in all));
        symbol_is = sym (ap (λ ts. named (symbol_in ts)) all);
        place_is = ap place_in all ∙ omega arith;
        bytes_are = ap bytes_in all ∙ rw none refl;
        rest_is = ap rest_of all ∙ sym ended;
      }

  module _ (s : ℕ) (within : start < length text) (of-sort : s ≡ sort_of (get_or text start 0)) where
    no_blank : ¬ (s ≡ blank)
    no_blank q =
        let k = run_length blank (drop at text) in
        let e : get_or (drop at text) k 0 ≡ get_or text start 0 = get_or-drop at text k 0 ∙ ap (λ n. get_or text n 0) (sym blanks) in
        run_stops blank (drop at text) (omega (arith, length-drop at text)) (ap sort_of e ∙ sym of-sort ∙ q)

    -- a token of so many bytes, by the stream
    module _ (size : ℕ) (first : stream_at text start ≡ token (record { sort = s; place = suc start; bytes = slice_range text start (start + size) }) (stream_at text (start + size))) where
      scanned : (symbol : Symbol) → 0 < size → start + size ≤ length text
          → symbol ≡ named (symbol_of (record { sort = s; place = 0; bytes = slice_range text start (start + size) }))
          → Scanned text at (record { symbol = symbol; start = start; end = start + size })
      unfolding symbol_of
      scanned symbol some end_within e =
          let all = skipped ∙ first in
          record {
            from = from;
            skipped = skipped;
            upto = omega arith;
            end_within = end_within;
            some = λ _. omega arith;
            symbol_is = e ∙ sym (ap (λ ts. named (symbol_in ts)) all);
            place_is = ap place_in all ∙ omega arith;
            bytes_are = ap bytes_in all;
            rest_is = ap rest_of all;
          }

    bytes_of : (n : ℕ) → get_or text start 0 ∷ take n (drop (suc start) text) ≡ slice_range text start (start + suc n)
    bytes_of n =
        let one : start + suc n - start ≡ suc n = omega arith in
        rw (one, drop-cons text start 0 within) refl

    pub scanned_sign : (symbol : Symbol) (size : ℕ) → ¬ (s ≡ letter) → ¬ (s ≡ digit) → size ≡ 1
        → symbol ≡ named (symbol_of (record { sort = s; place = 0; bytes = slice_range text start (start + size) }))
        → Scanned text at (record { symbol = symbol; start = start; end = start + size })
    scanned_sign symbol size f g one e =
        scanned size
        (at_sign text start s within (sym of-sort) no_blank (no_runs s f g)
        ∙ ap₂ (λ bs n. token (record { sort = s; place = suc start; bytes = bs }) (stream_at text n)) (bytes_of 0 ∙ ap (λ n. slice_range text start (start + n)) (sym one)) (omega arith))
        symbol (omega arith) (omega arith) e

    pub scanned_run : (symbol : Symbol) (size : ℕ) → makes_runs s ≡ true → size ≡ run_length s (drop start text)
        → symbol ≡ named (symbol_of (record { sort = s; place = 0; bytes = slice_range text start (start + size) }))
        → Scanned text at (record { symbol = symbol; start = start; end = start + size })
    scanned_run symbol size runs is e =
        let k = run_length s (drop (suc start) text) in
        let more : size ≡ suc k = is ∙ run_more s text start within (sym of-sort) in
        scanned size
        (at_run text start s within (sym of-sort) no_blank runs k refl
        ∙ ap₂ (λ bs n. token (record { sort = s; place = suc start; bytes = bs }) (stream_at text n)) (bytes_of k ∙ ap (λ n. slice_range text start (start + n)) (sym more)) (omega arith))
        symbol (omega arith) (omega (arith, is, length_run s (drop start text), length-drop start text)) e
