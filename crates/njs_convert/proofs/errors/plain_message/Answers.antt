use Rattle.std.proofs.Common.{rules}
use Rattle.std.specs.Str.{chars}
use Rattle.njs_convert.proofs.errors.plain_message.Goals as goal

pub returns-in-NotDefined : goal.returns-in-NotDefined
unfolding chars
returns-in-NotDefined c = search rules

pub returns-in-NotFunction : goal.returns-in-NotFunction
unfolding chars
returns-in-NotFunction c = search rules

pub returns-in-NotConstructor : goal.returns-in-NotConstructor
unfolding chars
returns-in-NotConstructor c = search rules

pub returns-in-NullBase : goal.returns-in-NullBase
unfolding chars
returns-in-NullBase c = search rules

pub returns-in-NotObject : goal.returns-in-NotObject
unfolding chars
returns-in-NotObject c = search rules

pub returns-in-ReadOnly : goal.returns-in-ReadOnly
unfolding chars
returns-in-ReadOnly c = search rules

pub returns-in-NotExtensible : goal.returns-in-NotExtensible
unfolding chars
returns-in-NotExtensible c = search rules

pub returns-in-NotConfigurable : goal.returns-in-NotConfigurable
unfolding chars
returns-in-NotConfigurable c = search rules

pub returns-in-WrongReceiver : goal.returns-in-WrongReceiver
unfolding chars
returns-in-WrongReceiver c = search rules

pub returns-in-WrongArgument : goal.returns-in-WrongArgument
unfolding chars
returns-in-WrongArgument c = search rules

pub returns-in-NoPrimitive : goal.returns-in-NoPrimitive
unfolding chars
returns-in-NoPrimitive c = search rules

pub returns-in-Circular : goal.returns-in-Circular
unfolding chars
returns-in-Circular c = search rules

pub returns-in-EmptyReduce : goal.returns-in-EmptyReduce
unfolding chars
returns-in-EmptyReduce c = search rules

pub returns-in-ResponseState : goal.returns-in-ResponseState
unfolding chars
returns-in-ResponseState c = search rules

pub returns-in-BadField : goal.returns-in-BadField
unfolding chars
returns-in-BadField c = search rules

pub returns-in-OutOfRange : goal.returns-in-OutOfRange
unfolding chars
returns-in-OutOfRange c = search rules

pub returns-in-Fraction : goal.returns-in-Fraction
unfolding chars
returns-in-Fraction c = search rules

pub returns-in-DivideByZero : goal.returns-in-DivideByZero
unfolding chars
returns-in-DivideByZero c = search rules

pub returns-in-NotNumber : goal.returns-in-NotNumber
unfolding chars
returns-in-NotNumber c = search rules

pub returns-in-CallDepth : goal.returns-in-CallDepth
unfolding chars
returns-in-CallDepth c = search rules

pub returns-in-TextTooLong : goal.returns-in-TextTooLong
unfolding chars
returns-in-TextTooLong c = search rules

pub returns-in-BadLength : goal.returns-in-BadLength
unfolding chars
returns-in-BadLength c = search rules

pub returns-in-BadArgument : goal.returns-in-BadArgument
unfolding chars
returns-in-BadArgument c = search rules

pub returns-in-TooNested : goal.returns-in-TooNested
unfolding chars
returns-in-TooNested c = search rules

pub returns-in-BadJson : goal.returns-in-BadJson
unfolding chars
returns-in-BadJson c = search rules

pub returns-in-BadUri : goal.returns-in-BadUri
unfolding chars
returns-in-BadUri c = search rules

pub returns-in-NoRoom : goal.returns-in-NoRoom
unfolding chars
returns-in-NoRoom c = search rules
