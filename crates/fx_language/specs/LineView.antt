-- A line that was read, without its place in memory.
use Rattle.fx_chain.specs.Operation.{asked_of}
use Rattle.fx_chain.specs.declared.request.Request as chain
use Rattle.fx_language.specs.declared.line.Line.{Line}
use Rattle.fx_language.specs.declared.line.Line.TheVariants.{File, Command, Request, Submit}
use Rattle.fx_language.specs.Instruction.{instruction_of}
use Rattle.fx_language.specs.Line.{FileLine, CommandLine, RequestLine, SubmitLine}
use Rattle.fx_language.specs.Line as line

abbrev pub request_in : chain.Request → line.Line
request_in request = RequestLine (asked_of request)

abbrev pub line_in : Line → line.Line
line_in (File name hex) = FileLine name.now hex.now
line_in (Command command) = CommandLine (instruction_of command)
line_in (Request request) = request_in request
line_in Submit = SubmitLine
