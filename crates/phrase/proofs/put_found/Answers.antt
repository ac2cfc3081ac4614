-- The string, and the header before it, are the numbers of a match with one include (put-found).
use Rattle.std.proofs.Common.{arith}
use Rattle.phrase.proofs.FindsLaws.{found-ends, put-found}
use Rattle.phrase.proofs.put_found.Goals as goal

pub close_match-requires : goal.close_match-requires
close_match-requires c =
    found-ends c.args.q c.args.p c.args.k c.args.rank c.new-string.ensures.span_value c.new-string.ensures.tag_value c.put_string-next.ensures (omega (arith, c.requires))

pub returns : goal.returns
returns c =
    put-found c.args.q c.args.p c.args.k c.args.rank c.new-string.ensures.span_value c.new-string.ensures.tag_value c.put_string-next.ensures c.close_match.ensures
