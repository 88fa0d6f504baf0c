-- `copies::copy32` meets its contract. Four numbers that are read, then written, are copies of their bytes, one after another.
-- Assumes nothing.
use Prim.Native.Nat.{◌+◌}
use native.Mathlib.Omega.{arith}
use Rattle.octets.specs.Octets.{Bytes}
use Rattle.copies.proofs.Copied.{copied, copied-both}
use Rattle.copies.proofs.copy32.Goals as goal

pub returns : goal.returns
returns c =
    let s = c.args.s.now in
    let o = c.args.o.now in
    let p = c.args.p in
    let q = c.args.q in
    let are_bytes : Bytes s = λ i. (c.shared_slice_known-1.given i).fits in
    let a = copied 8 s o p q are_bytes (omega arith) c.get_u64-a.ensures c.put_u64.ensures in
    let b = copied 8 s _ (p + 8) (q + 8) are_bytes (omega arith) c.get_u64-b.ensures c.put_u64-2.ensures in
    let c₃ = copied 8 s _ (p + 16) (q + 16) are_bytes (omega arith) c.get_u64-c.ensures c.put_u64-3.ensures in
    let d = copied 8 s _ (p + 24) (q + 24) are_bytes (omega arith) c.get_u64-d.ensures c.put_u64-4.ensures in
    copied-both 24 8 s o p q (omega arith) (copied-both 16 8 s o p q (omega arith) (copied-both 8 8 s o p q (omega arith) a b) c₃) d
