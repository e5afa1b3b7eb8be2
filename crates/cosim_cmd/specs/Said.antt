-- The sentence that was read, and how a command is described to `clap`.
use Rattle.std.specs.Prelude.{true, codes, Some}
use Rattle.clap.specs.Walk.{Rule}
use Rattle.clap.specs.declared.builder.action.ArgAction.TheVariants.{SetTrue}
use Rattle.clap.specs.Simple.{App, Shape, new_rule, new_app, with_rule, on_top}
use Rattle.cosim_cmd.specs.Sentence.{Text, Sentence, Check, Model, Serial, Replay, Asm}
use Rattle.cosim_cmd.specs.declared.words.Sentence.{Sentence as Read}
use Rattle.cosim_cmd.specs.declared.words.Sentence.TheVariants as read
use Rattle.cosim_cmd.specs.Request.{Request, OnFiles, Load}
use Rattle.cosim_cmd.specs.declared.request.Request.{Request as Asked}
use Rattle.cosim_cmd.specs.declared.request.Request.TheVariants as asked
use Rattle.cosim_cmd.specs.declared.words.Flag.{Flag}
use Rattle.cosim_cmd.specs.declared.words.Flag.TheVariants as flag

abbrev pub said : Read → Sentence
said (read.Check file) = Check file.now
said (read.Model file stats) = Model file.now stats
said (read.Serial file stats) = Serial file.now stats
said (read.Replay file schedule) = Replay file.now schedule.now
said (read.Asm file) = Asm file.now

abbrev pub requested : Asked → Request
requested (asked.OnFiles sentence) = OnFiles (said sentence)
requested (asked.Load stations text) = Load stations text

-- one required file, and no options; the words are those after the command's name
abbrev pub file_rule : Rule
file_rule = record (new_rule (codes "file")) { required = true }

abbrev pub described : Text → App
described name = with_rule (on_top (λ (s : Shape). record s { no_binary_name = true; disable_help_flag = true }) (new_app name)) file_rule

-- a second required file
abbrev pub schedule_rule : Rule
schedule_rule = record (new_rule (codes "schedule")) { required = true }

abbrev pub described_with_schedule : Text → App
described_with_schedule name = with_rule (described name) schedule_rule

-- an option that has no value: its name, and the word that gives it
abbrev pub flag_name : Flag → Text
flag_name flag.Stats = codes "stats"
flag_name flag.Text = codes "text"

abbrev pub flag_word : Flag → Text
flag_word flag.Stats = codes "--stats"
flag_word flag.Text = codes "--text"

abbrev pub flag_rule : Flag → Rule
flag_rule f = record (new_rule (flag_name f)) { long = Some (flag_name f); action = Some SetTrue }

-- one required file, and the option
abbrev pub described_with_flag : Flag → Text → App
described_with_flag f name = with_rule (described name) (flag_rule f)
