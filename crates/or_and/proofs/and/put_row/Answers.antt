-- The left match lies below what is written, so it is joined with each right one (AndLaws).
use borrow.Author.Rules.{rules}
use Rattle.or_and.proofs.AndLaws.{joined_one, row-each, row-item, row-put, row_whole}
use Rattle.or_and.proofs.and.put_row.Goals as goal

pub each_match-requires : goal.each_match-requires
each_match-requires c =
    let w = c.requires.row in
    record {
      rule = joined_one c.requires.left;
      list = c.requires.rights;
      each = row-each w;
      may = λ m p q written v o. let x = row-item w v o in search rules;
      does = λ m m' p q next written v o f. row-put w v o (search rules);
    }

pub returns : goal.returns
returns c x =
    let w = x.row in
    row_whole w
    (c.each_match.ensures
    (record {
      rule = joined_one x.left;
      list = x.rights;
      each = row-each w;
      may = λ m p q written v o. let y = row-item w v o in search rules;
      does = λ m m' p q next written v o f. row-put w v o (search rules);
    }))
