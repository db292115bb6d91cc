-- A handle may go to another thread: it owns what a box owns, or nothing.
use mathlib.Core.Bool.{Bool, true, false}
use mir.Raw.{raw}
use base.Shift.{Keyless}
use denote.Memory.{lone}
use denote.RawPtr.{Ptr}
use denote.Struct.Struct.{exits_of}
use denote.Struct.Owning.{shape, fields, to}
use denote.Param.Send.{IsSend, AllSend, owning_send, struct_send, sendable}
use Rattle.std.specs.Global.{Global}
use Rattle.std.proofs.Crossing as heap
use Rattle.std_alloc.proofs.SendSync.{quiet, lies}
use Rattle.std_heap.proofs.Global.TheSendSync as allocator
use Rattle.uca_c.specs.contracts.held.Held as Home
use Rattle.uca_c.proofs.held.Held.TheSendSync.{the_send as home}
use Rattle.uca_c.specs.contracts.handle.Handle.{the_row, the_type}
use Rattle.uca_c.specs.inside.Handles.{handle_owns}

owned : (full : Bool) (alloc : Global) (p : Ptr) (x : Home.the_row.Denot) → Keyless (handle_owns full alloc p x)
owned true alloc p x = (lies Home.the_row home p x, heap.frees.frees alloc (raw (lone Home.the_row.mir)) p)
owned false alloc p x = tt

pub send : IsSend the_row
send =
    let all : AllSend (fields the_type) = (search sendable, (allocator.the_field_send, (search sendable, tt))) in
    owning_send the_type all (λ d. owned d.full d.alloc d.ptr d.kept)
    (λ k. quiet (to the_type) (exits_of k (fields the_type)) ((struct_send (shape the_type) all).leaving k))
