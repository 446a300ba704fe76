mod Answer
mod Asking
mod Breaks
mod Feeding
mod Held
mod Numbers
