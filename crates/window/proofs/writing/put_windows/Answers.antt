-- A match without includes has no window, and one whose join is too wide has none. Of any other the join's span says where the windows end (JoinedLaws),
-- so putting each is putting all.
use Rattle.store.proofs.DecodeLaws.{includes-lent}
use Rattle.window.proofs.WindowsLaws.{dropped, windows_at, windows_put}
use Rattle.window.proofs.writing.put_windows.Goals as goal

pub returns-in_default : goal.returns-in_default
returns-in_default c w = dropped _ w c.bounds_at-bounds.ensures (includes-lent w.one.held c.bounds_at-bounds.ensures c.includes.ensures) c.in_default.ensures

pub put_all-requires : goal.put_all-requires
put_all-requires c =
    let w = c.requires.one_at in
    windows_at _ w c.bounds_at-bounds.ensures (includes-lent w.one.held c.bounds_at-bounds.ensures c.includes.ensures) c.requires.window_size c.in-Some.ensures

pub returns : goal.returns
returns c w =
    let b = c.bounds_at-bounds.ensures in
    let same = includes-lent w.one.held b c.includes.ensures in
    windows_put _ w b same c.requires.window_size c.in-Some.ensures (c.put_all.ensures (windows_at _ w b same c.requires.window_size c.in-Some.ensures))
