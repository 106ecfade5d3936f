-- Five stores side by side are one.
use Rattle.std.proofs.Common.{length-append}
use Rattle.protocol.proofs.StoredLists.{sets_append}
use Rattle.wire.specs.Message.{header_bytes}
use Rattle.wire.specs.NumberLaws.{length_bytes_of}
use Rattle.wire.proofs.encode.put_header.Goals as goal

pub returns : goal.returns
unfolding header_bytes
returns c =
    rw (c.write-5.ensures, c.write-4.ensures, c.write-3.ensures, c.write-2.ensures, c.write.ensures)
    (simp (sets_append, length-append, length_bytes_of))
