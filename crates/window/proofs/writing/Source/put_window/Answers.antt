-- The join is put, the excludes inside after it, and the header in front.
use Rattle.window.proofs.WindowsLaws.{join-room, excludes-at, window_ends_lem, window-put}
use Rattle.window.proofs.writing.Source.put_window.Goals as goal

pub put_string-excludes-requires : goal.put_string-excludes-requires
put_string-excludes-requires c = join-room c.requires

pub put_inside-end-requires : goal.put_inside-end-requires
put_inside-end-requires c = excludes-at c.requires c.put_string-excludes.ensures

pub close_match-requires : goal.close_match-requires
close_match-requires c =
    let v = c.put_string-excludes.ensures in
    window_ends_lem c.requires v (c.put_inside-end.ensures (excludes-at c.requires v))

pub returns : goal.returns
returns c w =
    let v = c.put_string-excludes.ensures in
    window-put w v (c.put_inside-end.ensures (excludes-at w v)) c.close_match.ensures
