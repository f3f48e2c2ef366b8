-- The request of a line to a worker of a replica: a reference, or a flush.
use Rattle.std.specs.Prelude.{Option, Some, None, Result, Ok, Err}
use Rattle.warm_world.specs.declared.event.Event.{Event}
use Rattle.warm_world.specs.declared.event.Event.TheVariants.{Refer, Flush}
use Rattle.warm_player.specs.declared.parse.Line.{Line}
use Rattle.warm_player.specs.declared.parse.Line.TheVariants as meant
use Rattle.warm_player.specs.declared.worker.WorkerRequest.{WorkerRequest}
use Rattle.warm_player.specs.declared.worker.WorkerRequest.TheVariants as request
use Rattle.warm_player.specs.declared.worker.NotForWorker.{NotForWorker}

-- the request of an event to a worker; the other events have none
abbrev pub worker_request_of : Event → Option WorkerRequest
worker_request_of (Refer i w page time) = Some (request.Reference i w page time)
worker_request_of (Flush i w) = Some (request.Flush i w)
worker_request_of event = None

-- the request, or the fault that there is none
abbrev pub or_not_for_worker : Option WorkerRequest → Result (Option WorkerRequest) NotForWorker
or_not_for_worker None = Err (record {})
or_not_for_worker (Some asked) = Ok (Some asked)

-- the request to a worker of a line of this meaning: None if it means nothing, and an error if it
-- is bad or has no request to a worker
abbrev pub worker_request_in : Option Line → Result (Option WorkerRequest) NotForWorker
worker_request_in None = Err (record {})
worker_request_in (Some meant.Nothing) = Ok None
worker_request_in (Some (meant.Act event)) = or_not_for_worker (worker_request_of event)
