-- The header, the length word and the entries are three stretches side by side; a turn stores the next entry's bytes after those before it.
use Rattle.std.proofs.Common.{◌≡◌, take, le_refl, arith, rules, refl}
use Rattle.wire.specs.Message.{first_entry_at, header_bytes, entries_bytes}
use Rattle.wire.specs.EntriesLaws.{entries_written, entries_bytes_front}
use Rattle.wire.specs.WriteLaws.{clear_stored}
use Rattle.wire.proofs.encode.put_clear.Goals as goal

pub loop-i-init : goal.loop-i-init
unfolding entries_bytes
loop-i-init c = (refl, search rules)

pub loop-i-preserved : goal.loop-i-preserved
loop-i-preserved c =
    let at = c.loop-i in
    let m = c.args.m.now in
    let turn = entries_written c.write.new.out first_entry_at (take m.len m.entries) at.i in (
      search rules,
      rw (c.write-in-loop-i-3.ensures, c.write-in-loop-i-2.ensures, c.write-in-loop-i.ensures, at.invariant.1) turn,
    )

pub returns : goal.returns
unfolding header_bytes
returns c =
    let at = c.loop-i in
    let m = c.args.m.now in
    let all : at.i ≡ m.len = omega arith in
    clear_stored m c.args.out.now c.put_header.new.out c.write.new.out at.out c.requires.0 c.requires.2 c.put_header.ensures c.write.ensures
    (rw (all, entries_bytes_front m.len m.len m.entries (le_refl m.len)) at at.invariant.1)
