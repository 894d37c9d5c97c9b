-- How the program ends, by what its words ask for.
use Rattle.std.specs.Prelude.{◌≡◌, ◌≤◌, ◌⊎◌, ℕ, List, [], Result, Ok, Err}
use Rattle.std.specs.Borrow.{Bor}
use Rattle.clap.specs.Words.{Text}
use Rattle.insar_ports.specs.declared.sink.WriteFault.{WriteFault}
use Rattle.answer_lines.specs.declared.refusal.Refusal.{Refusal}
use Rattle.answer_lines.specs.declared.refusal.Refusal.TheVariants as refusals
use Rattle.insar_words.specs.declared.request.Request.{Request}
use Rattle.insar_words.specs.declared.fault.WordsFault.{WordsFault}
use Rattle.insar_commands.specs.Answers.{HasAnswered, IsWithinInput}
use Rattle.insar_commands.specs.Causes.{HasRefusalCause}
use Rattle.answer_lines.specs.RefusalLines.{refusal_line}
use Rattle.answer_lines.specs.Refusals.{status_of, words_refusal}
use Rattle.insar_words.specs.Requests.{HasWordsCause, IsRequest}
use Rattle.insar_commands.specs.Run.{HasKept, IsUnread, Run}

-- an end is a status for which `Done` holds, or a refusal that has its cause
abbrev pub EndsBy : (ℕ → Type 0) → (Refusal → Type 0) → Result ℕ Refusal → Type 0
EndsBy Done HasCause (Ok status) = Done status
EndsBy Done HasCause (Err refusal) = HasCause refusal

-- how a request ends
abbrev pub IsRequestEnd : Request → Run → Result ℕ Refusal → Type 0
IsRequestEnd asked run end = IsWithinInput asked run × EndsBy (HasAnswered asked run) (HasRefusalCause asked run) end

-- how a request ends whose text was put
abbrev pub end_of_put : Result (Unit {0}) WriteFault → ℕ → Result ℕ Refusal
end_of_put (Ok put) status = Ok status
end_of_put (Err fault) status = Err refusals.WriteFault

-- how the program ends: the words are not read, and nothing was taken or put; or what they ask for ends
pub data IsProgramEnd (words : List (Bor Text)) (run : Run) (end : Result ℕ Refusal) : Type 0 where
  not_read : (fault : WordsFault) → HasWordsCause words fault → IsUnread run → HasKept run → end ≡ Err (words_refusal fault) → IsProgramEnd words run end
  done : (asked : Request) → IsRequest words asked → IsRequestEnd asked run end → IsProgramEnd words run end

-- the status of an end, and the line that is put with it
abbrev pub end_status : Result ℕ Refusal → ℕ
end_status (Ok status) = status
end_status (Err refusal) = status_of refusal

abbrev pub line_of_end : Result ℕ Refusal → List ℕ
line_of_end (Ok status) = []
line_of_end (Err refusal) = refusal_line refusal

-- the line that goes with a status: none with 0 and 1, or that of a refusal that has it
abbrev pub IsLineAt : ℕ → List ℕ → Type 0
IsLineAt status line = ((status ≤ 1) × (line ≡ [])) ⊎ ((refusal : Refusal) × ((status ≡ status_of refusal) × (line ≡ refusal_line refusal)))
