-- The values that a mail loop takes to its thread, and returns, may be sent to another thread. For
-- `search`.
use denote.RattleType.{RattleType}
use denote.Param.Send.{IsSend, IsSync, struct_send, struct_sync, sendable}
use denote.Struct.Struct.{Struct}
use denote.Struct.Declared as Declared
use Rattle.std.proofs.Crossing.{crosses, Deque-send, Vec-send}
use Rattle.std.specs.contracts.alloc.Global as Heap
use Rattle.std.specs.contracts.impls.GlobalAllocator.TheImpl.{ghosts}
use Rattle.crossbeam_channel.specs.contracts.channel.Receiver as Receiver
use Rattle.crossbeam_channel.specs.contracts.channel.Sender as Sender
use Rattle.crossbeam_channel.specs.contracts.channel.Receiver.TheInside as ReceiverInside
use Rattle.crossbeam_channel.specs.contracts.channel.Sender.TheInside as SenderInside
use Rattle.crossbeam_channel.specs.contracts.channel.Shared as Shared
use Rattle.crossbeam_channel.specs.contracts.state.State as State
use Rattle.warm_refbuffer.specs.contracts.RefBuffer as RefBuffer
use Rattle.warm_gossip.specs.contracts.call.Call as Call
use Rattle.warm_gossip.specs.contracts.call.Reply as Reply
use Rattle.warm_maps.specs.contracts.hist.Entry as Entry
use Rattle.warm_frames.specs.contracts.entries.EntryList as EntryList
use Rattle.warm_frames.specs.contracts.entries.EntryList.TheInside as EntryListInside
use Rattle.warm_frames.specs.contracts.message.Message as Message
use Rattle.warm_frames.specs.contracts.digests.DigestTable as DigestTable
use Rattle.warm_stamps.specs.contracts.Bucket as Bucket
use Rattle.warm_stamps.specs.contracts.PageId as PageId
use Rattle.warm_stamps.specs.contracts.Reference as Reference
use Rattle.warm_stamps.specs.contracts.items.Items as Items
use Rattle.warm_machine.specs.declared.machine.Machine as Machine
use Rattle.warm_turn.proofs.SendLemmas.{pass_send, turn_sync}
use Rattle.warm_replica.specs.contracts.boxed.BoxedCall as BoxedCall
use Rattle.warm_replica.specs.contracts.boxed.BoxedReply as BoxedReply
use Rattle.warm_replica.specs.contracts.mail.Mail as Mail
use Rattle.warm_replica.specs.contracts.post.Outbox as Outbox
use Rattle.warm_replica.specs.contracts.report.MailReport as MailReport
use denote.Ref.{NamedLft}
use Rattle.warm_replica.specs.contracts.job.Step as Step
use Rattle.warm_replica.specs.contracts.job.StepReply as StepReply
use Rattle.warm_replica.specs.contracts.prepared_job.PreparedJob as PreparedJob
use Rattle.warm_replica.specs.contracts.replies.Replies as Replies
use Rattle.warm_replica.specs.contracts.replies.Replies.TheInside as RepliesInside
use Rattle.warm_replica.specs.contracts.replies.Run as Run
use Rattle.warm_replica.specs.contracts.mail_loops.MailLoop as MailLoop
use Rattle.warm_replica.specs.contracts.worker.Worker as Worker
use Rattle.warm_replica.specs.contracts.worker.Worker.TheInside as WorkerInside

pub mail_send : IsSend Mail.the_row
mail_send = search (sendable, crosses) depth 20

state_send : IsSend (State.the_field).row
state_send = search (sendable, crosses) depth 20

state_sync : IsSync (State.the_field).row
state_sync = search (sendable, crosses) depth 20

shared_send : (T : RattleType) → IsSend T → IsSend (Shared.the_row T Heap.the_row ghosts)
shared_send T s =
    let fields : IsSend (Struct (Declared.shape (Shared.the_type T Heap.the_row ghosts))) =
    let deque = Deque-send T s in
    struct_send (Declared.shape (Shared.the_type T Heap.the_row ghosts)) (state_send, (search (sendable, crosses, deque) depth 20, (search (sendable, crosses) depth 20, tt))) in
    search (sendable, fields) depth 20

shared_sync : (T : RattleType) → IsSend T → IsSync (Shared.the_row T Heap.the_row ghosts)
shared_sync T s =
    let fields : IsSync (Struct (Declared.shape (Shared.the_type T Heap.the_row ghosts))) =
    let deque = Deque-send T s in
    struct_sync (Declared.shape (Shared.the_type T Heap.the_row ghosts)) (state_sync, (search (sendable, crosses, deque) depth 20, (search (sendable, crosses) depth 20, tt))) in
    search (sendable, fields) depth 20

receiver_inside_send : (T : RattleType) → IsSend T
    → IsSend (ReceiverInside.the_row T Heap.the_row ghosts)
receiver_inside_send T s =
    let one = shared_send T s in
    let two = shared_sync T s in
    let fields : IsSend (Struct (Declared.shape (ReceiverInside.the_type T Heap.the_row ghosts))) = search (sendable, crosses, one, two) depth 20 in search (sendable, fields) depth 20

sender_inside_send : (T : RattleType) → IsSend T
    → IsSend (SenderInside.the_row T Heap.the_row ghosts)
sender_inside_send T s =
    let one = shared_send T s in
    let two = shared_sync T s in
    let fields : IsSend (Struct (Declared.shape (SenderInside.the_type T Heap.the_row ghosts))) = search (sendable, crosses, one, two) depth 20 in search (sendable, fields) depth 20

pub receiver_send : (T : RattleType) → IsSend T → IsSend (Receiver.the_row T Heap.the_row ghosts)
receiver_send T s = let inner = receiver_inside_send T s in search (sendable, inner) depth 20

pub sender_send : (T : RattleType) → IsSend T → IsSend (Sender.the_row T Heap.the_row ghosts)
sender_send T s = let inner = sender_inside_send T s in search (sendable, inner) depth 20

pub outbox_send : IsSend Outbox.the_row
outbox_send = search (sendable, crosses, mail_send, sender_send) depth 20

pub report_send : IsSend MailReport.the_row
report_send = search (sendable, crosses) depth 20

buffer_send : IsSend RefBuffer.the_row
buffer_send = search (sendable, crosses) depth 20

worker_inside_send : (M C R X : RattleType) (g : Machine.Ghosts M.Denot C.Denot R.Denot X.Denot)
    → IsSend M → IsSend (WorkerInside.the_row M C R X g)
worker_inside_send M C R X g s =
    let pass = pass_send M C R X g s in
    let fields : IsSend (Struct (Declared.shape (WorkerInside.the_type M C R X g))) = search (sendable, pass, buffer_send) depth 20 in
    search (sendable, fields) depth 20

pub worker_send : (M C R X : RattleType) (g : Machine.Ghosts M.Denot C.Denot R.Denot X.Denot)
    → IsSend M → IsSend (Worker.the_row M C R X g)
worker_send M C R X g s = let inner = worker_inside_send M C R X g s in search (sendable, inner) depth 20

pub mail_loop_send : (a : NamedLft) (M C R X : RattleType)
    (g : Machine.Ghosts M.Denot C.Denot R.Denot X.Denot) → IsSend M
    → IsSend (MailLoop.the_row a M C R X g)
mail_loop_send a M C R X g s =
    let worker = worker_send M C R X g s in
    let turn = turn_sync M C R X g s in
    let fields : IsSend (Struct (Declared.shape (MailLoop.the_type a M C R X g))) =
    struct_send (Declared.shape (MailLoop.the_type a M C R X g)) (search (sendable, turn) depth 20, (worker, (receiver_send Mail.the_row mail_send, (Vec-send Outbox.the_row outbox_send, tt)))) in
    search (sendable, fields) depth 20

-- The values that a job takes to its thread, and returns

items_send : (T : RattleType) → IsSend T → IsSend (Items.the_row T)
items_send T s = search (sendable, crosses) depth 20

page_send : IsSend PageId.the_row
page_send = search (sendable, crosses) depth 20

reference_send : IsSend Reference.the_row
reference_send = search (sendable, crosses) depth 20

entry_send : IsSend Entry.the_row
entry_send =
    let fields : IsSend (Struct (Declared.shape Entry.the_type)) = search (sendable, crosses) depth 20 in
    search (sendable, fields) depth 20

entry_list_send : IsSend EntryList.the_row
entry_list_send =
    let entries = Vec-send Entry.the_row entry_send in
    let fields : IsSend (Struct (Declared.shape EntryListInside.the_type)) = search (sendable, entries) depth 20 in
    let inner : IsSend EntryListInside.the_row = search (sendable, fields) depth 20 in
    search (sendable, inner) depth 20

digest_table_send : IsSend DigestTable.the_row
digest_table_send = search (sendable, crosses) depth 20

message_send : IsSend Message.the_row
message_send = search (sendable, crosses, entry_list_send, digest_table_send) depth 20

bucket_send : IsSend Bucket.the_row
bucket_send = search (sendable, crosses) depth 20

pub call_send : IsSend Call.the_row
call_send = search (sendable, crosses, items_send, page_send, reference_send, bucket_send) depth 80 fits 100000

pub reply_send : IsSend Reply.the_row
reply_send = search (sendable, crosses, page_send, message_send) depth 80 fits 100000

boxed_call_send : IsSend BoxedCall.the_row
boxed_call_send = search (sendable, crosses, call_send, reply_send) depth 80 fits 100000

boxed_reply_send : IsSend BoxedReply.the_row
boxed_reply_send = search (sendable, crosses, reply_send) depth 80 fits 100000

pub step_send : IsSend Step.the_row
step_send = search (sendable, crosses, boxed_call_send) depth 80 fits 100000

step_reply_send : IsSend (StepReply.the_field).row
step_reply_send = search (sendable, crosses, boxed_reply_send) depth 80 fits 100000

run_send : IsSend Run.the_row
run_send =
    let fields : IsSend (Struct (Declared.shape Run.the_type)) =
    struct_send (Declared.shape Run.the_type) (search (sendable, crosses) depth 20, (step_reply_send, tt)) in
    search (sendable, fields) depth 20

pub replies_send : IsSend Replies.the_row
replies_send =
    let runs = Vec-send Run.the_row run_send in
    let fields : IsSend (Struct (Declared.shape RepliesInside.the_type)) = search (sendable, runs) depth 20 in
    let inner : IsSend RepliesInside.the_row = search (sendable, fields) depth 20 in
    search (sendable, inner) depth 20

pub prepared_job_send : IsSend PreparedJob.the_row
prepared_job_send =
    let fields : IsSend (Struct (Declared.shape PreparedJob.the_type)) = search (sendable, crosses, buffer_send, step_send, replies_send) depth 20 in
    search (sendable, fields) depth 20
