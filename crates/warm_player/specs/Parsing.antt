-- The values of the readers of a line, in terms of the definitions.
use Rattle.std.specs.Prelude.{Option, Some, option_map}
use Rattle.warm_world.specs.declared.event.Event.TheVariants as event
use Rattle.warm_player.specs.Fields.{bytes_of_hex}
use Rattle.warm_player.specs.Grammar.{Reader, refer_of, flush_of, send_of, offer_of, deliver_of}
use Rattle.warm_player.specs.Grammar.{pin_of, unpin_of, put_of, get_of, victim_of, warm_of}
use Rattle.warm_player.specs.Grammar.{warmstep_of, restart_of, horizon_of, show_of}
use Rattle.warm_player.specs.declared.commands.Command.{Command}
use Rattle.warm_player.specs.declared.commands.Command.TheVariants as command
use Rattle.warm_player.specs.declared.commands.ParsedLine.{ParsedLine}
use Rattle.warm_player.specs.declared.commands.ParsedLine.TheVariants as parsed
use Rattle.warm_player.specs.declared.parse.Line.{Line}
use Rattle.warm_player.specs.declared.parse.Line.TheVariants as meant

-- the reader of a command's fields
abbrev pub reader_of : Command → Reader
reader_of command.Refer = refer_of
reader_of command.Flush = flush_of
reader_of command.Send = send_of
reader_of command.Offer = offer_of
reader_of command.Deliver = deliver_of
reader_of command.Pin = pin_of
reader_of command.Unpin = unpin_of
reader_of command.Put = put_of
reader_of command.Get = get_of
reader_of command.Victim = victim_of
reader_of command.Warm = warm_of
reader_of command.WarmStep = warmstep_of
reader_of command.Restart = restart_of
reader_of command.Horizon = horizon_of
reader_of command.Show = show_of

-- the meaning of the line: nothing if it has no word or is a comment; the bytes of a put are those
-- that its word spells
abbrev pub line_parsed : ParsedLine → Option Line
line_parsed parsed.Nothing = Some meant.Nothing
line_parsed (parsed.Event event) = Some (meant.Act event)
line_parsed (parsed.Put replica slot at word) =
    option_map meant.Act (option_map (event.Put replica slot at) (bytes_of_hex word.now))
