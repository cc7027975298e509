use Rattle.lib_calls.specs.Answer.{answer_of}
use Rattle.lib_calls.specs.Entry.{entry_of}
use Rattle.lib_calls.proofs.AnswerRoom.{random_room, recv_room, try_recv_room}
use Rattle.lib_calls.proofs.answer.write_answer.Goals as goal

pub put_bytes-requires : goal.put_bytes-requires
put_bytes-requires c =
    random_room c.args.entry.now.call.kind c.args.entry.now.call (answer_of (entry_of c.args.entry.now)) c.args.memory.now c.in-Random.is c.requires.good c.requires.answer

pub put_datagram-requires : goal.put_datagram-requires
put_datagram-requires c =
    let room = recv_room c.args.entry.now.call.kind c.args.entry.now.call (answer_of (entry_of c.args.entry.now)) c.args.memory.now c.in-Recv.is c.requires.good c.requires.answer in
    record { payload = room.0; sender = room.1 }

pub put_datagram-requires-in-TryRecv : goal.put_datagram-requires-in-TryRecv
put_datagram-requires-in-TryRecv c =
    let room = try_recv_room c.args.entry.now.call.kind c.args.entry.now.call (answer_of (entry_of c.args.entry.now)) c.args.memory.now c.in-TryRecv.is c.requires.good c.requires.answer in
    record { payload = room.0; sender = room.1 }
